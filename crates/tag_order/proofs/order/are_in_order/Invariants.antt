use Rattle.std.proofs.Common.{◌≡◌, length}
use Rattle.tag_order.specs.Order.{are_in_order}
use Rattle.tag_order.proofs.order.are_in_order.Given as goal

-- the keys of the tags that are left ascend exactly where all do
abbrev pub invariant-loop-tag : goal.invariant-loop-tag
invariant-loop-tag l = are_in_order l.rest ≡ are_in_order l.tags

abbrev pub decreases-loop-tag : goal.decreases-loop-tag
decreases-loop-tag l = length l.rest
