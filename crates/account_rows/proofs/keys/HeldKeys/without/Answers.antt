use Rattle.std.proofs.Common.{List, ℕ, ap, sym, subst, ◌∙◌}
use Rattle.std.specs.Ordering.{nat_cmp}
use Rattle.key_states.specs.declared.rows.KeyRow.{KeyRow}
use Rattle.account_rows.specs.Keys.{rows_in, unplaced, AreDatesOf}
use Rattle.account_rows.proofs.DateFacts.{due_cmp, by_dates, dates_without_row}
use Rattle.account_rows.proofs.KeyFacts.{AreKeyed, unplaced_pair, keyed_without}
use Rattle.account_rows.proofs.keys.HeldKeys.without.Goals as goal

pub invariant_of-result : goal.invariant_of-result
invariant_of-result c =
    let rows = c.self.inside.rows in
    let place = c.args.place in
    let left = c.in_ok-dates_without.field-0 in
    record {
      keyed = subst AreKeyed (sym c.in_ok-remove.ensures) (keyed_without rows c.self.invariant.keyed place);
      dates = subst (λ (l : List (ℕ × KeyRow)). AreDatesOf due_cmp l left) (sym c.in_ok-remove.ensures) (dates_without_row due_cmp by_dates rows left place c.in_ok-dates_without.ensures);
    }

pub returns : goal.returns
returns c =
    let rows = c.self.inside.rows in
    ap rows_in c.in_ok-remove.ensures
    ∙ unplaced_pair rows c.self.invariant.keyed c.args.place ∙ ap (λ (l : List KeyRow). unplaced l c.args.place) c.self.view_is
