use Rattle.std.proofs.Common.{List, ℕ, Option, if◌then◌else◌, ap, sym, subst, ◌∙◌}
use Rattle.std.specs.Prelude.{◌==◌}
use Rattle.std.specs.Ordering.{nat_cmp}
use Rattle.persist_map.specs.Pairs.{value_at, with_pair}
use Rattle.key_states.specs.declared.rows.KeyRow.{KeyRow}
use Rattle.account_rows.specs.declared.keys.Due.{Due}
use Rattle.account_rows.specs.Keys.{rows_in, placed, date_of, due_on, AreDatesOf}
use Rattle.account_rows.proofs.DateFacts.{due_cmp, by_dates, dates_with_row}
use Rattle.account_rows.proofs.KeyFacts.{AreKeyed, placed_pair, keyed_with}
use Rattle.account_rows.proofs.keys.HeldKeys.with.Goals as goal

pub invariant_of-result : goal.invariant_of-result
invariant_of-result c =
    let row = c.args.held in
    let rows = c.self.inside.rows in
    let place = c.row.result.now.born in
    let left = c.in_ok-dates.dates in
    let born = ap (λ (r : KeyRow). r.born) c.row.ensures.row in
    let keyed = subst AreKeyed (sym (c.in_ok-rows.ensures ∙ ap (λ (p : ℕ). with_pair nat_cmp rows p row) born)) (keyed_with rows c.self.invariant.keyed row) in
    let date = c.date_of.ensures ∙ ap date_of c.row-2.ensures.row in
    let more = λ (due : Due). c.in_ok-dates-2.ensures due ∙ ap (λ (d : Option ℕ). if due.place == place then due_on due.date d else value_at due_cmp left due) date in
    record {
      keyed = keyed;
      dates = subst (λ (l : List (ℕ × KeyRow)). AreDatesOf due_cmp l c.in_ok-dates-2.dates) (sym c.in_ok-rows.ensures) (dates_with_row due_cmp by_dates rows left place c.in_ok-dates.ensures row c.in_ok-dates-2.dates more);
    }

pub returns : goal.returns
returns c =
    let row = c.args.held in
    let rows = c.self.inside.rows in
    let born = ap (λ (r : KeyRow). r.born) c.row.ensures.row in
    ap rows_in (c.in_ok-rows.ensures ∙ ap (λ (p : ℕ). with_pair nat_cmp rows p row) born)
    ∙ placed_pair rows c.self.invariant.keyed row ∙ ap (λ (l : List KeyRow). placed l row) c.self.view_is
