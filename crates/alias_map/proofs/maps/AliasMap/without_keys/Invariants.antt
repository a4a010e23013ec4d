use Rattle.std.proofs.Common.{◌≡◌, drop}
use Rattle.alias_map.specs.Aliases.{without_keys}
use Rattle.alias_map.proofs.maps.AliasMap.without_keys.Given as goal

abbrev pub invariant-loop-key : goal.invariant-loop-key
invariant-loop-key l = without_keys l.map (drop l.key-index l.keys) ≡ without_keys l.self l.keys
