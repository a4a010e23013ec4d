use Rattle.std.proofs.Common.{◌≡◌, ℕ, List, length}
use Rattle.std.specs.Prelude.{◌↔◌, Any}
use Rattle.cond_ops.proofs.asked.is_packed.Given as goal

abbrev pub invariant-loop-policy : goal.invariant-loop-policy
invariant-loop-policy l = Any (λ (t : List ℕ). t ≡ l.text) l.rest ↔ Any (λ (t : List ℕ). t ≡ l.text) l.texts

abbrev pub decreases-loop-policy : goal.decreases-loop-policy
decreases-loop-policy l = length l.rest
