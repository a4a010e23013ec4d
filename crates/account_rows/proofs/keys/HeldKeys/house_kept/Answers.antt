use Rattle.std.proofs.Common.{◌≡◌, ◌+◌, List, ℕ, get_or, take, ap, sym, subst, ◌∙◌}
use Rattle.std.proofs.lemmas.List.{take_more, take_all}
use Rattle.std.proofs.lemmas.List.Elements.{recursion_from_All}
use Rattle.key_states.specs.declared.rows.KeyRow.{KeyRow}
use Rattle.account_rows.specs.Keys.{row_at, kept_at, kept_more, AreCovered}
use Rattle.account_rows.proofs.KeyFacts.{rising}
use Rattle.account_rows.proofs.KeptFacts.{Covers, kept_at_none, kept_one_more, all_kept}
use Rattle.account_rows.proofs.keys.HeldKeys.house_kept.Goals as goal

pub loop-place-init : goal.loop-place-init
loop-place-init c = c.in_ok-keys.ensures ∙ kept_at_none c.args.time c.args.self.now

pub loop-place-preserved : goal.loop-place-preserved
loop-place-preserved c =
    let rows = c.args.self.now in
    let time = c.args.time in
    let places = c.deref-place-items.result.now in
    let at = c.loop-place.place-index in
    let place = get_or places at 0 in
    c.in_ok-keys-2.ensures ∙ ap (λ (l : List KeyRow). kept_more time place (row_at rows place) l) c.loop-place.invariant
    ∙ kept_one_more time (take at places) place rows (rising rows c.requires.order.rise)
    ∙ ap (λ (l : List ℕ). kept_at time l rows) (sym (take_more places at 0 c.loop-place-test.true))

pub returns : goal.returns
returns c =
    let rows = c.args.self.now in
    let time = c.args.time in
    let places = c.deref-place-items.result.now in
    let covered = subst (λ (l : List ℕ). AreCovered time l rows) (sym c.deref-place-items.ensures.value) c.in_ok-places.ensures in
    c.loop-place.invariant ∙ ap (λ (l : List ℕ). kept_at time l rows) (take_all c.loop-place.place-index places c.loop-place-test.false)
    ∙ all_kept time places rows (recursion_from_All (Covers time places) rows covered)
