use Rattle.std.proofs.Common.{◌∙◌, ap}
use Rattle.std.specs.Cmp.Lexicographic.{slice_cmp}
use Rattle.std.specs.Ordering.{nat_cmp}
use Rattle.persist_map.specs.Pairs.{value_at}
use Rattle.grant_table.specs.declared.rows.GrantRow.{GrantRow}
use Rattle.grant_table.proofs.GranteeFacts.{groups_found, no_groups_found, same_insert}
use Rattle.grant_table.proofs.grantees.Grantees.groups_with.Goals as goal

pub returns-in-Some : goal.returns-in-Some
returns-in-Some c =
    same_insert _ c.args.row c.insert.result
    (groups_found c.args.self.now c.self.inside.keys c.self.view_is c.args.row.key c.in-Some.groups.now (c.in-Some.ensures ∙ ap (λ (row : GrantRow). value_at (slice_cmp nat_cmp) c.self.inside.keys row.key) c.value.ensures))
    (c.in_ok-grantee.ensures ∙ ap (λ (row : GrantRow). row.grantee) c.value-3.ensures) (ap (λ (row : GrantRow). row.born) c.value-2.ensures) c.insert.ensures

pub returns-in-None : goal.returns-in-None
returns-in-None c =
    same_insert _ c.args.row c.insert-in-None-2.result
    (c.new.ensures ∙ no_groups_found c.args.self.now c.self.inside.keys c.self.view_is c.args.row.key (c.in-None.ensures ∙ ap (λ (row : GrantRow). value_at (slice_cmp nat_cmp) c.self.inside.keys row.key) c.value.ensures))
    (c.in_ok-grantee.ensures ∙ ap (λ (row : GrantRow). row.grantee) c.value-3.ensures) (ap (λ (row : GrantRow). row.born) c.value-2.ensures) c.insert-in-None-2.ensures
