use Rattle.std.proofs.Common.{ap, ◌∙◌}
use Rattle.persist_map.specs.Groups.{pairs_behind}
use Rattle.persist_map.proofs.GroupFacts.{found, not_found}
use Rattle.persist_map.proofs.groups.PGroups.group_behind.Goals as goal

pub returns-in_default-clause-pairs : goal.returns-in_default-clause-pairs
returns-in_default-clause-pairs g c = c.none.ensures ∙ ap (λ l. pairs_behind l c.args.after) (not_found g.K.Ord.cmp c.args.self.now c.self.inside.groups c.args.key.now c.self.view_is c.in_default.ensures)

pub returns-clause-pairs : goal.returns-clause-pairs
returns-clause-pairs g c = c.behind.ensures.pairs ∙ ap (λ l. pairs_behind l c.args.after) (found g.K.Ord.cmp c.args.self.now c.self.inside.groups c.args.key.now c.self.view_is c.in-Some.group.now c.in-Some.ensures)
