use Rattle.std.proofs.Common.{◌≡◌, ◌++◌, map}
use Rattle.authority.specs.Facts.{resource_tag}
use Rattle.authority.proofs.tags.put_resource_tags.Given as goal

-- what is added, and the tags that are left, make all
abbrev pub invariant-loop-key : goal.invariant-loop-key
invariant-loop-key l =
    (goal.iterator-loop-key).can_next l.key-iterator × (goal.iterator-loop-key).is_finite l.key-iterator
    × (l.facts.items ++ map resource_tag l.key-iterator ≡ l.fn.facts.items ++ map resource_tag l.tags)
