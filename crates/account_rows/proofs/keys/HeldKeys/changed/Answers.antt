use Rattle.std.proofs.Common.{◌≡◌, Bor, IfOk, List, refl, ap, sym, subst, ◌∙◌}
use Rattle.std.specs.Option.{option_map}
use Rattle.std.proofs.lemmas.List.Elements.{recursion_from_All}
use Rattle.key_states.specs.declared.rows.KeyRow.{KeyRow}
use Rattle.account_rows.specs.declared.replay.Change.{Change}
use Rattle.account_rows.specs.declared.replay.Change.TheVariants as change
use Rattle.account_rows.specs.History.{place_in}
use Rattle.account_rows.specs.Keys.{placed}
use Rattle.account_rows.specs.Replaying.{CanTurn, MayChange, change_by}
use Rattle.account_rows.proofs.KeyFacts.{rising, none_changed, changed_at}
use Rattle.account_rows.proofs.RowFacts.{found_all}
use Rattle.account_rows.proofs.keys.HeldKeys.changed.Goals as goal

abbrev lent : Bor KeyRow → KeyRow
lent held = held.now

-- a change leaves the place
change_born : (by : Change) (row : KeyRow) → (change_by by row).born ≡ row.born
change_born (change.Stored stored) row = refl
change_born (change.Period days next) row = refl
change_born change.NoPeriod row = refl
change_born (change.Version time) row = refl
change_born (change.Policy text) row = refl
change_born (change.Description text) row = refl
change_born (change.Tag tags) row = refl
change_born (change.Untag keys) row = refl

pub of-requires-clause-turns : goal.of-requires-clause-turns
of-requires-clause-turns c =
    let found = sym c.get.ensures ∙ ap (option_map lent) c.in-Some.is in
    found_all CanTurn c.args.self.now c.args.key.now c.in-Some.held.now found c.requires.turns

pub of-requires-clause-may : goal.of-requires-clause-may
of-requires-clause-may c =
    let found = sym c.get.ensures ∙ ap (option_map lent) c.in-Some.is in
    subst (MayChange c.args.change.now) found c.requires.may

pub returns-in_ok-of-in-Some : goal.returns-in_ok-of-in-Some
returns-in_ok-of-in-Some c =
    let rows = c.args.self.now in
    let by = c.args.change.now in
    let row = c.in-Some.held.now in
    let found = sym c.get.ensures ∙ ap (option_map lent) c.in-Some.is in
    let named = recursion_from_All (λ (r : KeyRow). place_in r.key ≡ r.born) rows c.requires.order.named in
    subst (λ (l : List KeyRow). IfOk c.with.result (λ (keys : List KeyRow). keys ≡ l))
    (ap (placed rows) c.in_ok-of-in-Some.ensures ∙ changed_at c.args.key.now (change_by by) rows (rising rows c.requires.order.rise) named row found (change_born by row))
    c.with.ensures

pub returns-in-None : goal.returns-in-None
returns-in-None c =
    let rows = c.args.self.now in
    let none = sym c.get.ensures ∙ ap (option_map lent) c.in-None.is in
    subst (λ (l : List KeyRow). IfOk c.share.result (λ (keys : List KeyRow). keys ≡ l)) (sym (none_changed c.args.key.now (change_by c.args.change.now) rows none)) c.share.ensures
