use Rattle.std.proofs.Common.{◌≡◌, List, ℕ, Some, ◌==◌, ◌∙◌, ap, sym, subst}
use Rattle.grant_table.specs.Grants.{grant_with, without}
use Rattle.grant_table.specs.Tables.{AreTable}
use Rattle.grant_table.specs.declared.rows.GrantRow.{GrantRow}
use Rattle.grant_table.proofs.PrincipalFacts.{principal_cmp}
use Rattle.grant_table.proofs.TableFacts.{table_without, rows_are_without}
use Rattle.grant_table.proofs.tables.GrantTable.without_row.Goals as goal

pub invariant_of-result-2 : goal.invariant_of-result-2
invariant_of-result-2 c =
    let row = c.args.row.now in
    let old = c.self.inside in
    subst (λ (groups : List (List ℕ × List (ℕ × GrantRow))). AreTable principal_cmp c.in_ok-remove.field-0 c.in_ok-remove-2.field-0 groups c.in_ok-remove-3.field-0 c.in_ok-retiring_without.field-0) (sym c.by_key.view_is)
    (table_without old.rows old.by_id old.by_key old.by_grantee old.by_retiring c.self.invariant row (subst (λ rows. grant_with rows row.grant ≡ Some row) (sym c.self.view_is) c.requires)
    c.in_ok-remove.field-0 c.in_ok-remove-2.field-0 c.in_ok-by_key.by_key c.in_ok-remove-3.field-0 c.in_ok-retiring_without.field-0
    c.in_ok-remove.ensures c.in_ok-remove-2.ensures c.in_ok-by_key.ensures (c.group_len-is_last.result == 0) (ap (λ n. n == 0) c.group_len-is_last.ensures) c.in_ok-remove-3.ensures.one c.in_ok-remove-3.ensures.last c.in_ok-retiring_without.ensures.none c.in_ok-retiring_without.ensures.some)

pub returns : goal.returns
returns c =
    let row = c.args.row.now in
    let old = c.self.inside in
    rows_are_without old.rows old.by_id old.by_key old.by_grantee old.by_retiring c.self.invariant row (subst (λ rows. grant_with rows row.grant ≡ Some row) (sym c.self.view_is) c.requires) c.in_ok-remove.field-0 c.in_ok-remove.ensures
    ∙ ap (λ rows. without rows row.grant) c.self.view_is
