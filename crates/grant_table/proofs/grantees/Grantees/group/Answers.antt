use Rattle.std.proofs.Common.{List, ℕ, Option, [], ◌∙◌, ap}
use Rattle.std.specs.Option.{unwrap_or}
use Rattle.persist_map.specs.Groups.{group_of}
use Rattle.grant_table.specs.declared.rows.GrantRow.{GrantRow}
use Rattle.grant_table.proofs.PrincipalFacts.{principal_cmp}
use Rattle.grant_table.proofs.GranteeFacts.{groups_found, no_groups_found}
use Rattle.grant_table.proofs.grantees.Grantees.group.Goals as goal

pub returns : goal.returns
returns c = c.group.ensures.pairs ∙ ap (λ l. group_of principal_cmp l c.args.grantee.now) (groups_found c.args.self.now c.self.inside.keys c.self.view_is c.args.key.now c.in_ok-value_in.field-0.now c.in_ok-value_in.ensures)

pub returns-in_err-value_in : goal.returns-in_err-value_in
returns-in_err-value_in c =
    ap (λ (o : Option (List (ℕ × GrantRow))). unwrap_or o []) c.from_residual.ensures
    ∙ ap (λ l. group_of principal_cmp l c.args.grantee.now) (no_groups_found c.args.self.now c.self.inside.keys c.self.view_is c.args.key.now c.in_err-value_in.ensures)
