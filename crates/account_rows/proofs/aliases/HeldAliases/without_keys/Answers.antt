use Rattle.std.proofs.Common.{◌≡◌, IfOk, List, subst, sym, ◌∙◌}
use Rattle.alias_map.specs.declared.rows.AliasRow.{AliasRow}
use Rattle.account_rows.proofs.AliasFacts.{none_of}
use Rattle.account_rows.proofs.aliases.HeldAliases.without_keys.Goals as goal

pub returns-then-is_empty : goal.returns-then-is_empty
returns-then-is_empty c =
    subst (λ (rows : List AliasRow). IfOk c.share.result (λ (held : List AliasRow). held ≡ rows)) (none_of c.args.self.now c.args.keys.now (sym c.is_empty.ensures ∙ c.if-is_empty.true)) c.share.ensures
