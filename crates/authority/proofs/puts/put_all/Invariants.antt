use Rattle.std.proofs.Common.{◌≡◌, ◌++◌, map, take}
use Rattle.authority.specs.Facts.{single}
use Rattle.authority.proofs.puts.put_all.Given as goal

abbrev pub invariant-loop-pair : goal.invariant-loop-pair
invariant-loop-pair l = l.facts.items ≡ l.fn.facts.items ++ map (λ pair. single pair.0.now pair.1.now) (take l.pair-index l.pairs)
