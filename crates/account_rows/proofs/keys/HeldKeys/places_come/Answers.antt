use Rattle.std.proofs.Common.{◌≡◌, List, ℕ, sym, subst}
use Rattle.std.proofs.lemmas.Result.{IfOk-weaker}
use Rattle.key_states.specs.declared.rows.KeyRow.{KeyRow}
use Rattle.account_rows.specs.Keys.{rows_in, places_come, AreCovered, AreInOrder}
use Rattle.account_rows.proofs.DateFacts.{due_cmp, by_dates, are_covered}
use Rattle.account_rows.proofs.keys.HeldKeys.places_come.Goals as goal

pub returns : goal.returns
returns c =
    let time = c.args.time in
    let rows = c.self.inside.rows in
    let dates = c.self.inside.dates in
    let order = subst AreInOrder (sym c.self.view_is) c.requires in
    let covered = are_covered due_cmp by_dates time rows dates c.self.invariant.keyed c.self.invariant.dates order in
    IfOk-weaker c.places_come.result (λ places. places.items ≡ places_come time dates) (λ places. AreCovered time places.items c.args.self.now)
    (λ places is. subst (λ (l : List KeyRow). AreCovered time places.items l) c.self.view_is (subst (λ (l : List ℕ). AreCovered time l (rows_in rows)) (sym is) covered))
    c.places_come.ensures
