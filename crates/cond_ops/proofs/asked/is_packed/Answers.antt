use Rattle.std.proofs.Common.{◌≡◌, sym, ◌∙◌, List, ℕ, true, false}
use Rattle.std.specs.Prelude.{Any}
use Rattle.std.proofs.lemmas.Slice.Eq.{slice_eq-Decides}
use Rattle.std.proofs.lemmas.Bool.Decides.{Decides-eqb}
use Rattle.cond_ops.proofs.RelatedFacts.{first_has_not}
use Rattle.cond_ops.proofs.asked.is_packed.Goals as goal

pub loop-policy-preserved : goal.loop-policy-preserved
loop-policy-preserved c =
    let text = c.args.text.now in
    let policy = c.in-Some.policy.now in
    first_has_not (λ (t : List ℕ). t ≡ text) (Any (λ (t : List ℕ). t ≡ text) c.args.texts.now) policy c.loop-policy.rest c.in-Some.others c.in-Some.ensures c.loop-policy.invariant
    (λ e. let bad : false ≡ true = (slice_eq-Decides Decides-eqb policy text false (sym c.if-eq.false ∙ c.eq.ensures)).1 e in cc)
