use Rattle.std.proofs.Common.{ℕ, List, sym, subst}
use Rattle.cond_ops.specs.Integers.{AreReadOf}
use Rattle.cond_ops.proofs.integers.ReadTexts.of.Goals as goal

pub invariant_of-result : goal.invariant_of-result
invariant_of-result c =
    subst (λ (texts : List (List ℕ)). AreReadOf c.args.reading texts c.in_ok-integers.integers.items) (sym c.copy.ensures) c.in_ok-integers.ensures
