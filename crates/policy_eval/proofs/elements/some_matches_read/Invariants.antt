use Rattle.std.proofs.Common.{length}
use Rattle.std.specs.Prelude.{◌↔◌, Any}
use Rattle.cond_ops.specs.Relation.{IsLike}
use Rattle.policy_eval.proofs.elements.some_matches_read.Given as goal

-- some pattern matches exactly where some of those that are left does
abbrev pub invariant-loop-pattern : goal.invariant-loop-pattern
invariant-loop-pattern g l = Any (IsLike l.resource) l.fn.patterns ↔ Any (IsLike l.resource) l.left

abbrev pub decreases-loop-pattern : goal.decreases-loop-pattern
decreases-loop-pattern g l = length l.left
