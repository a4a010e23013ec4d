use Rattle.std.proofs.Common.{◌≡◌, IfOk, List, None, ap, subst, sym, ◌∙◌}
use Rattle.alias_map.specs.declared.rows.AliasRow.{AliasRow}
use Rattle.alias_map.specs.Aliases.{row_named}
use Rattle.account_rows.proofs.AliasFacts.{none_named}
use Rattle.account_rows.proofs.aliases.HeldAliases.without_alias.Goals as goal

pub returns-in-None : goal.returns-in-None
returns-in-None c =
    let none : row_named c.args.self.now c.args.name.now ≡ None = ap (λ rows. row_named rows c.args.name.now) (sym c.map-map.ensures) ∙ sym c.in-None.ensures in
    subst (λ (rows : List AliasRow). IfOk c.share.result (λ (held : List AliasRow). held ≡ rows)) (none_named c.args.self.now c.args.name.now none) c.share.ensures
