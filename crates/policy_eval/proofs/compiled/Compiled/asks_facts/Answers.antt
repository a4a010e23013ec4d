use Rattle.std.proofs.Common.{◌≡◌, Bool, true, false, sym, ◌∙◌}
use Rattle.policy_doc.specs.declared.policies.Policy.{Policy}
use Rattle.policy_eval.specs.Verdict.{HasConditions}
use Rattle.policy_eval.proofs.VerdictFacts.{goes_by_question, one_by_question}
use Rattle.policy_eval.proofs.compiled.Compiled.asks_facts.Goals as goal

no_conditions : (policy : Policy) (b : Bool) → (HasConditions policy → b ≡ true) → b ≡ false → ¬ (HasConditions policy)
no_conditions policy b back is some = let bad : false ≡ true = sym is ∙ back some in cc

pub returns-clause-unasked : goal.returns-clause-unasked
returns-clause-unasked c = λ is. goes_by_question c.args.self.now (no_conditions c.args.self.now _ c.has_conditions.ensures.1 is)

pub returns-clause-one : goal.returns-clause-one
returns-clause-one c = λ is. one_by_question c.args.self.now (goes_by_question c.args.self.now (no_conditions c.args.self.now _ c.has_conditions.ensures.1 is))
