use Rattle.std.proofs.Common.{◌∙◌, ap}
use Rattle.std.specs.Cmp.Lexicographic.{slice_cmp}
use Rattle.std.specs.Ordering.{nat_cmp}
use Rattle.persist_map.specs.Pairs.{with_pair}
use Rattle.grant_table.proofs.GranteeFacts.{inserted}
use Rattle.grant_table.proofs.grantees.Grantees.insert.Goals as goal
use Rattle.grant_table.specs.declared.rows.GrantRow.{GrantRow}

pub returns : goal.returns
returns c =
    inserted _ c.args.self.now c.args.row c.in_ok-insert.field-0 c.in_ok-groups.groups c.in_ok-groups.ensures
    (c.in_ok-insert.ensures ∙ ap (λ l. with_pair (slice_cmp nat_cmp) l c.value.result.now.key c.in_ok-groups.groups) c.self.view_is ∙ ap (λ (row : GrantRow). with_pair (slice_cmp nat_cmp) c.args.self.now row.key c.in_ok-groups.groups) c.value.ensures)
