-- Laws of verdicts and of ceilings.
use Rattle.std.specs.Prelude.{◌≡◌, ◌↔◌, List}
use Rattle.cond_ops.specs.declared.facts.RequestFacts.{RequestFacts}
use Rattle.policy_doc.specs.declared.policies.Policy.{Policy}
use Rattle.policy_eval.specs.declared.verdicts.Verdict.{Verdict}
use Rattle.policy_eval.specs.declared.ceilings.CeilingVerdict.TheVariants.{Passes}
use Rattle.policy_eval.specs.Ceiling.{Under}
use Rattle.policy_eval.specs.CeilingOf.{ceiling_of}
use Rattle.policy_eval.specs.Verdict.{IsVerdict, AskTheSame}
use Rattle.policy_eval.specs.VerdictOf.{verdict_of}

-- a policy has one verdict of a request
abbrev pub VerdictsAreOne : Type 0
VerdictsAreOne = (policy : Policy) (request : RequestFacts) (v w : Verdict) → IsVerdict policy request v → IsVerdict policy request w → v ≡ w

-- and `verdict_of` is that one
abbrev pub VerdictOfIsTheVerdict : Type 0
VerdictOfIsTheVerdict = (policy : Policy) (request : RequestFacts) → IsVerdict policy request (verdict_of policy request)

-- the policy's verdict goes by the caller, the action and the resource alone
abbrev pub HasOneVerdictByQuestion : Policy → Type 0
HasOneVerdictByQuestion policy = (a b : RequestFacts) → AskTheSame a b → verdict_of policy a ≡ verdict_of policy b

-- `ceiling_of` passes exactly where `Under` holds
abbrev pub CeilingOfIsUnder : Type 0
CeilingOfIsUnder = (documents : List Policy) (request : RequestFacts) → (ceiling_of documents request ≡ Passes) ↔ Under documents request
