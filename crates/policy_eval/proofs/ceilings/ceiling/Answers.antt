use Rattle.std.proofs.Common.{◌≡◌, true, false, refl, sym, ◌∙◌}
use Rattle.policy_eval.specs.declared.ceilings.CeilingVerdict.TheVariants.{Passes, Stops}
use Rattle.policy_eval.proofs.CeilingFacts.{is_ceiling_of}
use Rattle.policy_eval.proofs.ceilings.ceiling.Goals as goal

pub returns-then-is_under-clause-one : goal.returns-then-is_under-clause-one
returns-then-is_under-clause-one c = is_ceiling_of c.args.documents.now c.args.facts.now Passes (λ e. c.is_under.ensures.0 c.if-is_under.true, λ under. refl)

pub returns-else-is_under-clause-one : goal.returns-else-is_under-clause-one
returns-else-is_under-clause-one c =
    is_ceiling_of c.args.documents.now c.args.facts.now Stops
    (λ e. cc, λ under. let bad : false ≡ true = sym c.if-is_under.false ∙ c.is_under.ensures.1 under in cc)
