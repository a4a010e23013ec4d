use Rattle.std.proofs.Common.{◌≡◌, [], ◌∷◌, ◌++◌, None, Some, ◌∙◌, ap, sym, subst}
use Rattle.std.specs.Cmp.Lexicographic.{slice_cmp}
use Rattle.std.specs.Ordering.{nat_cmp}
use Rattle.kms_names.specs.declared.principals.Principal.{Principal}
use Rattle.persist_map.specs.Pairs.{with_pair}
use Rattle.persist_map.specs.Groups.{group_of, group_with}
use Rattle.grant_table.specs.Grants.{MayAdd}
use Rattle.grant_table.specs.Tables.{grantee_group_with}
use Rattle.grant_table.specs.declared.rows.GrantRow.{GrantRow}
use Rattle.grant_table.proofs.PrincipalFacts.{principal_cmp}
use Rattle.grant_table.proofs.TableFacts.{table_with, rows_are_with}
use Rattle.grant_table.proofs.tables.GrantTable.add.Goals as goal

pub invariant_of-result : goal.invariant_of-result
invariant_of-result c =
    let row = c.args.row in
    let old = c.self.inside in
    let retiring = c.in_ok-share-4.ensures ∙ c.in_ok-row.ensures in
    table_with old.rows old.by_id old.by_key old.by_grantee old.by_retiring c.self.invariant row (subst (λ rows. MayAdd rows row) (sym c.self.view_is) c.requires)
    c.in_ok-insert-4.field-0 c.in_ok-insert.field-0 c.in_ok-insert-2.field-0 c.in_ok-insert-3.field-0 c.in_ok-retiring_with.field-0
    (c.in_ok-insert-4.ensures ∙ ap (λ (r : GrantRow). with_pair nat_cmp old.rows row.born r) c.in_ok-row.ensures)
    (c.in_ok-insert.ensures ∙ ap (λ (r : GrantRow). with_pair (slice_cmp nat_cmp) old.by_id row.grant r) (c.in_ok-share.ensures ∙ c.in_ok-row.ensures))
    (λ key. c.in_ok-insert-2.ensures key ∙ ap (λ (r : GrantRow). group_with (slice_cmp nat_cmp) old.by_key row.key row.born r key) (c.in_ok-share-2.ensures ∙ c.in_ok-row.ensures))
    (λ key grantee. c.in_ok-insert-3.ensures key grantee ∙ ap (λ (r : GrantRow). grantee_group_with principal_cmp old.by_grantee r key grantee) (c.in_ok-share-3.ensures ∙ c.in_ok-row.ensures))
    (subst (λ (r : GrantRow). r.retiring ≡ None → c.in_ok-retiring_with.field-0 ≡ old.by_retiring) retiring c.in_ok-retiring_with.ensures.none)
    (subst (λ (r : GrantRow). (p : Principal) → r.retiring ≡ Some p → (other : Principal) → group_of principal_cmp c.in_ok-retiring_with.field-0 other ≡ group_with principal_cmp old.by_retiring p r.born r other) retiring c.in_ok-retiring_with.ensures.some)

pub returns : goal.returns
returns c =
    let row = c.args.row in
    let old = c.self.inside in
    rows_are_with old.rows old.by_id old.by_key old.by_grantee old.by_retiring c.self.invariant row (subst (λ rows. MayAdd rows row) (sym c.self.view_is) c.requires) c.in_ok-insert-4.field-0
    (c.in_ok-insert-4.ensures ∙ ap (λ (r : GrantRow). with_pair nat_cmp old.rows row.born r) c.in_ok-row.ensures)
    ∙ ap (λ rows. rows ++ row ∷ []) c.self.view_is
