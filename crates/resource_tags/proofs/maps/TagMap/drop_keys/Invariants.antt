use Rattle.std.proofs.Common.{◌≡◌, ◌≤◌, drop, length}
use Rattle.resource_tags.specs.Tags.{without_tags}
use Rattle.resource_tags.proofs.maps.TagMap.drop_keys.Given as goal

-- what is left to drop leads to what stays, and the tags don't become more
abbrev pub invariant-loop-key : goal.invariant-loop-key
invariant-loop-key l = (without_tags l.all (drop l.key-index l.keys) ≡ without_tags l.self l.keys) × (length l.all ≤ 50)
