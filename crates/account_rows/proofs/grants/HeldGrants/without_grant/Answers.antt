use Rattle.std.proofs.Common.{◌≡◌, IfOk, List, None, ap, subst, sym, ◌∙◌}
use Rattle.grant_table.specs.declared.rows.GrantRow.{GrantRow}
use Rattle.grant_table.specs.Grants.{grant_with}
use Rattle.account_rows.proofs.GrantFacts.{none_with}
use Rattle.account_rows.proofs.grants.HeldGrants.without_grant.Goals as goal

pub returns-in-None : goal.returns-in-None
returns-in-None c =
    let none : grant_with c.args.self.now c.args.grant.now ≡ None = ap (λ rows. grant_with rows c.args.grant.now) (sym c.table-table.ensures) ∙ sym c.in-None.ensures in
    subst (λ (rows : List GrantRow). IfOk c.share.result (λ (held : List GrantRow). held ≡ rows)) (none_with c.args.self.now c.args.grant.now none) c.share.ensures
