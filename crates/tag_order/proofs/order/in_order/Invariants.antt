use Rattle.std.proofs.Common.{◌≡◌, ◌++◌, map}
use Rattle.tag_order.specs.Order.{tag_of, in_order}
use Rattle.tag_order.proofs.order.in_order.Given as goal

-- what stands, and what is left of the values by their keys, make all
abbrev pub invariant-loop-key : goal.invariant-loop-key
invariant-loop-key l =
    (goal.iterator-loop-key).can_next l.key-iterator × (goal.iterator-loop-key).is_finite l.key-iterator × (l.items.items ++ map tag_of l.key-iterator ≡ in_order l.tags)
