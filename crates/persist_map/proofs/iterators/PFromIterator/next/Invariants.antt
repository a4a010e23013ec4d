use Rattle.std.proofs.Common.{◌≡◌, ◌++◌, map, length}
use Rattle.std.specs.Arc.{arc_value}
use Rattle.persist_map.specs.Parts.{joined}
use Rattle.persist_map.proofs.iterators.PFromIterator.next.Given as goal

abbrev pub invariant-loop-pair : goal.invariant-loop-pair
invariant-loop-pair g l =
    map arc_value l.self-inside.pairs.now ++ joined (map arc_value l.self-inside.parts.now) ≡ map arc_value l.initial.self-inside.pairs.now ++ joined (map arc_value l.initial.self-inside.parts.now)

abbrev pub decreases-loop-pair : goal.decreases-loop-pair
decreases-loop-pair g l = length l.self-inside.parts.now
