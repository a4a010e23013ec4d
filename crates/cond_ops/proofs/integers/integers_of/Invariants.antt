use Rattle.std.proofs.Common.{◌≡◌, ◌⊎◌, ℤ, length}
use Rattle.std.specs.Prelude.{◌↔◌, Any}
use Rattle.cond_ops.specs.Integers.{IsReadAs}
use Rattle.cond_ops.proofs.integers.integers_of.Given as goal

-- the integers so far, and those that the rest is read as, are those that the texts are read as
abbrev pub invariant-loop-text : goal.invariant-loop-text
invariant-loop-text l =
    (z : ℤ) → (Any (λ y. y ≡ z) l.integers.items ⊎ Any (λ text. IsReadAs l.reading text z) l.rest) ↔ Any (λ text. IsReadAs l.reading text z) l.texts

abbrev pub decreases-loop-text : goal.decreases-loop-text
decreases-loop-text l = length l.rest
