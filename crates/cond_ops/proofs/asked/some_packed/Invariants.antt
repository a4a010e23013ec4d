use Rattle.std.proofs.Common.{length}
use Rattle.std.specs.Prelude.{◌↔◌, Any}
use Rattle.cond_ops.specs.Relation.{RelatesAs}
use Rattle.cond_ops.proofs.asked.some_packed.Given as goal

abbrev pub invariant-loop-policy : goal.invariant-loop-policy
invariant-loop-policy l = Any (RelatesAs l.read.0 l.read.1) l.rest ↔ Any (RelatesAs l.read.0 l.read.1) l.texts

abbrev pub decreases-loop-policy : goal.decreases-loop-policy
decreases-loop-policy l = length l.rest
