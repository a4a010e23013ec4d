use Rattle.std.proofs.Common.{sym, ap, ◌∙◌}
use Rattle.persist_map.specs.Groups.{pairs_behind}
use Rattle.persist_map.proofs.GroupFacts.{above_is_behind, all_behind}
use Rattle.persist_map.proofs.maps.PMap+u64+V.behind.Goals as goal

pub returns-in_default-clause-pairs : goal.returns-in_default-clause-pairs
returns-in_default-clause-pairs g c = c.iter.ensures.pairs ∙ all_behind c.args.self.now ∙ ap (pairs_behind c.args.self.now) (sym c.in_default.is)

pub returns-clause-pairs : goal.returns-clause-pairs
returns-clause-pairs g c = c.above.ensures.pairs ∙ above_is_behind c.args.self.now c.in-Some.place ∙ ap (pairs_behind c.args.self.now) (sym c.in-Some.is)
