use Rattle.std.proofs.Common.{◌≡◌}
use Rattle.resource_tags.specs.Tags.{tag_after}
use Rattle.resource_tags.proofs.maps.TagMap.after.Given as goal

-- no tag so far is above the key
abbrev pub invariant-loop-tag : goal.invariant-loop-tag
invariant-loop-tag l =
    (goal.iterator-loop-tag).can_next l.tag-iterator × (goal.iterator-loop-tag).is_finite l.tag-iterator × (tag_after l.tag-iterator l.key ≡ tag_after l.self l.key)
