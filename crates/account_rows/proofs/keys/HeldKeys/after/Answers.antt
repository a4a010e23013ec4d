use Rattle.std.proofs.Common.{◌≡◌, IfOk, List, ap, sym, subst, ◌∙◌}
use Rattle.key_states.specs.declared.rows.KeyRow.{KeyRow}
use Rattle.account_rows.specs.declared.entries.What.{What}
use Rattle.account_rows.specs.Changes.{new_key, keys_after}
use Rattle.account_rows.specs.Keys.{placed}
use Rattle.account_rows.proofs.KeyFacts.{placed_behind}
use Rattle.account_rows.proofs.keys.HeldKeys.after.Goals as goal

pub returns-in_ok-new-in-CreateKey : goal.returns-in_ok-new-in-CreateKey
returns-in_ok-new-in-CreateKey c =
    let rows = c.args.self.now in
    let place = c.args.place in
    let entry = c.args.entry.now in
    let new = new_key place entry.time c.in-CreateKey.key c.in-CreateKey.kind c.in-CreateKey.description c.in-CreateKey.policy c.in-CreateKey.tags in
    let made = c.in_ok-new-in-CreateKey.ensures ∙ c.in_ok-row-in-CreateKey.ensures in
    subst (λ (l : List KeyRow). IfOk c.with.result (λ (keys : List KeyRow). keys ≡ l))
    (ap (placed rows) made ∙ placed_behind rows new (λ k d lt. (c.requires.are.each k d lt).before)
    ∙ ap (λ (what : What). keys_after place entry.time what rows) (sym c.in-CreateKey.is))
    c.with.ensures
