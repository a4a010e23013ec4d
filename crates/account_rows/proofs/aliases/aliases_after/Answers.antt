use Rattle.std.proofs.Common.{◌≡◌, IfOk, List, ℕ, ap, sym, subst, ◌∙◌}
use Rattle.alias_map.specs.declared.rows.AliasRow.{AliasRow}
use Rattle.alias_map.specs.Aliases.{without_keys}
use Rattle.account_rows.specs.declared.entries.What.{What}
use Rattle.account_rows.specs.AliasChanges.{aliases_after}
use Rattle.account_rows.proofs.AliasFacts.{without_same}
use Rattle.account_rows.proofs.aliases.aliases_after.Goals as goal

pub gone-requires : goal.gone-requires
gone-requires c = c.requires.order

pub returns-in_ok-gone-in-House : goal.returns-in_ok-gone-in-House
returns-in_ok-gone-in-House c =
    let rows = c.args.aliases.now in
    let entry = c.args.entry.now in
    let same = ap (without_keys rows) c.deref.ensures.value ∙ without_same rows c.in_ok-gone-in-House.gone.items _ c.in_ok-gone-in-House.ensures in
    subst (λ (l : List AliasRow). IfOk c.without_keys.result (λ (held : List AliasRow). held ≡ l))
    (same ∙ ap (λ (what : What). aliases_after c.args.place entry.time what c.args.keys.now rows) (sym c.in-House.is))
    c.without_keys.ensures
