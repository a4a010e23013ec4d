use Rattle.std.proofs.Common.{length, ap, ◌∙◌}
use Rattle.persist_map.proofs.GroupFacts.{found, not_found}
use Rattle.persist_map.proofs.groups.PGroups.group_len.Goals as goal

pub returns-in-Some : goal.returns-in-Some
returns-in-Some g c = c.len.ensures.len ∙ ap length (found g.K.Ord.cmp c.args.self.now c.self.inside.groups c.args.key.now c.self.view_is c.in-Some.group.now c.in-Some.ensures)

pub returns-in-None : goal.returns-in-None
returns-in-None g c = ap length (not_found g.K.Ord.cmp c.args.self.now c.self.inside.groups c.args.key.now c.self.view_is c.in-None.ensures)
