use Rattle.std.proofs.Common.{◌≡◌, ◌++◌, map, take}
use Rattle.authority.specs.Facts.{pair_fact}
use Rattle.authority.proofs.facts.put_pairs.Given as goal

abbrev pub invariant-loop-pair : goal.invariant-loop-pair
invariant-loop-pair l = l.facts.items ≡ l.fn.facts.items ++ map pair_fact (take l.pair-index l.pairs)
