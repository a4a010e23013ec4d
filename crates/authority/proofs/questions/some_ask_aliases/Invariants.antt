use Rattle.std.proofs.Common.{ℕ, ◌<◌, get_or}
use Rattle.policy_doc.specs.declared.policies.Policy.{Policy}
use Rattle.policy_eval.specs.Asking.{HasOneVerdictWithout}
use Rattle.authority.specs.Questions.{resource_aliases}
use Rattle.authority.proofs.questions.some_ask_aliases.Given as goal

abbrev pub invariant-loop-policy : goal.invariant-loop-policy
invariant-loop-policy l = (k : ℕ) (d : Policy) → k < l.policy-index → HasOneVerdictWithout resource_aliases (get_or l.policies k d)
