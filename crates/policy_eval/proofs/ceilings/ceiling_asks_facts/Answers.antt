use Rattle.std.proofs.Common.{◌≡◌, true, false, sym, ◌∙◌}
use Rattle.policy_eval.proofs.CeilingFacts.{ceiling_by_question}
use Rattle.policy_eval.proofs.ceilings.ceiling_asks_facts.Goals as goal

pub returns-clause-unasked : goal.returns-clause-unasked
returns-clause-unasked c = λ none. ceiling_by_question c.args.documents.now (λ some. let bad : false ≡ true = sym none ∙ c.some_has_conditions.ensures.1 some in cc)
