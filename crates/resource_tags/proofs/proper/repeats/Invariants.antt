use Rattle.std.proofs.Common.{◌≡◌, length}
use Rattle.resource_tags.specs.Proper.{repeats}
use Rattle.resource_tags.proofs.proper.repeats.Given as goal

-- a key stands twice among the tags that are left exactly where one does among all
abbrev pub invariant-loop-tag : goal.invariant-loop-tag
invariant-loop-tag l = repeats l.rest ≡ repeats l.tags

abbrev pub decreases-loop-tag : goal.decreases-loop-tag
decreases-loop-tag l = length l.rest
