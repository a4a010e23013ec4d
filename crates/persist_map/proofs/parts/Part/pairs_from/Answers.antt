use Rattle.std.specs.Arc.{arc_value}
use Rattle.persist_map.proofs.ReadFacts.{seen_back}
use Rattle.persist_map.proofs.parts.Part.pairs_from.Goals as goal

pub returns : goal.returns
returns g c = seen_back arc_value c.self.inside.pairs.items c.as_slice.result.now c.args.self.now c.as_slice.ensures.value c.self.view_is c.args.place
