use Rattle.std.proofs.Common.{ℕ, ◌<◌, get_or}
use Rattle.policy_doc.specs.declared.policies.Policy.{Policy}
use Rattle.policy_eval.specs.Laws.{HasOneVerdictByQuestion}
use Rattle.authority.proofs.questions.some_ask.Given as goal

abbrev pub invariant-loop-policy : goal.invariant-loop-policy
invariant-loop-policy l = (k : ℕ) (d : Policy) → k < l.policy-index → HasOneVerdictByQuestion (get_or l.policies k d)
