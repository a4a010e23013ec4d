use Rattle.std.proofs.Common.{◌≡◌, length}
use Rattle.alias_map.specs.Kept.{of_others}
use Rattle.alias_map.proofs.maps.AliasMap.without_key.Given as goal

abbrev pub invariant-loop-map : goal.invariant-loop-map
invariant-loop-map l = of_others l.key l.map ≡ of_others l.key l.self

abbrev pub decreases-loop-map : goal.decreases-loop-map
decreases-loop-map l = length l.map
