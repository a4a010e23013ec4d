use Rattle.std.proofs.Common.{◌≡◌, [], drop}
use Rattle.resource_tags.specs.Tags.{with_tags}
use Rattle.tag_order.proofs.order.by_keys.Given as goal

-- what is left to put leads to all
abbrev pub invariant-loop-tag : goal.invariant-loop-tag
invariant-loop-tag l = with_tags l.all (drop l.tag-index l.tags) ≡ with_tags [] l.tags
