use Rattle.std.proofs.Common.{◌∙◌, ap}
use Rattle.std.specs.Cmp.Lexicographic.{slice_cmp}
use Rattle.std.specs.Ordering.{nat_cmp}
use Rattle.persist_map.specs.Pairs.{without_key}
use Rattle.grant_table.proofs.GranteeFacts.{groups_gone}
use Rattle.grant_table.proofs.grantees.Grantees.without_key.Goals as goal

pub returns : goal.returns
returns c = groups_gone c.args.self.now c.args.key.now c.in_ok-remove.field-0 (c.in_ok-remove.ensures ∙ ap (λ l. without_key (slice_cmp nat_cmp) l c.args.key.now) c.self.view_is)
