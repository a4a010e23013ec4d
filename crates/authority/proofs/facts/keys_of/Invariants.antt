use Rattle.std.proofs.Common.{◌≡◌, map, take}
use Rattle.authority.proofs.facts.keys_of.Given as goal

abbrev pub invariant-loop-pair : goal.invariant-loop-pair
invariant-loop-pair l = l.keys.items ≡ map (λ pair. pair.key) (take l.pair-index l.pairs)
