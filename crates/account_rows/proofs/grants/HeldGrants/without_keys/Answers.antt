use Rattle.std.proofs.Common.{◌≡◌, IfOk, List, subst, sym, ◌∙◌}
use Rattle.grant_table.specs.declared.rows.GrantRow.{GrantRow}
use Rattle.account_rows.proofs.GrantFacts.{none_of}
use Rattle.account_rows.proofs.grants.HeldGrants.without_keys.Goals as goal

pub returns-then-is_empty : goal.returns-then-is_empty
returns-then-is_empty c =
    subst (λ (rows : List GrantRow). IfOk c.share.result (λ (held : List GrantRow). held ≡ rows)) (none_of c.args.self.now c.args.keys.now (sym c.is_empty.ensures ∙ c.if-is_empty.true)) c.share.ensures
