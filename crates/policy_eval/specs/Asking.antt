-- Which condition keys policies ask for.
use Rattle.std.specs.Prelude.{◌≡◌, IsTrue, not, ℕ, List, Any, filter}
use Rattle.std.specs.Str.{str_eq_ignore_ascii_case}
use Rattle.cond_ops.specs.declared.conditions.Condition.{Condition}
use Rattle.cond_ops.specs.declared.facts.Fact.{Fact}
use Rattle.cond_ops.specs.declared.facts.RequestFacts.{RequestFacts}
use Rattle.cond_ops.specs.Holds.{has_name}
use Rattle.policy_doc.specs.declared.policies.Policy.{Policy}
use Rattle.policy_doc.specs.declared.policies.Statement.{Statement}
use Rattle.policy_eval.specs.declared.verdicts.Verdict.{Verdict}
use Rattle.policy_eval.specs.CeilingOf.{ceiling_of}
use Rattle.policy_eval.specs.Verdict.{IsVerdict, AskTheSame}
use Rattle.policy_eval.specs.VerdictOf.{verdict_of}

-- some condition is about this condition key, without ASCII case
abbrev pub SomeAskFor : List ℕ → List Statement → Type 0
SomeAskFor key statements = Any (λ (s : Statement). Any (λ (c : Condition). IsTrue (str_eq_ignore_ascii_case c.key key)) s.conditions) statements

abbrev pub AsksFor : List ℕ → Policy → Type 0
AsksFor key policy = SomeAskFor key policy.statements

-- what a request says of other condition keys than this
abbrev pub facts_but : List ℕ → List Fact → List Fact
facts_but key facts = filter (λ fact. not (has_name key fact)) facts

-- two requests by the same caller, for the same action on the same resource, that say the same of all other condition keys
abbrev pub AskTheSameBut : List ℕ → RequestFacts → RequestFacts → Type 0
AskTheSameBut key a b = AskTheSame a b × (facts_but key a.facts ≡ facts_but key b.facts)

-- the policy's verdicts don't go by what requests say of this condition key
abbrev pub GoesWithout : List ℕ → Policy → Type 0
GoesWithout key policy = (a b : RequestFacts) (verdict : Verdict) → AskTheSameBut key a b → IsVerdict policy a verdict → IsVerdict policy b verdict

abbrev pub HasOneVerdictWithout : List ℕ → Policy → Type 0
HasOneVerdictWithout key policy = (a b : RequestFacts) → AskTheSameBut key a b → verdict_of policy a ≡ verdict_of policy b

-- nor does what the documents of a ceiling say
abbrev pub CeilingGoesWithout : List ℕ → List Policy → Type 0
CeilingGoesWithout key documents = (a b : RequestFacts) → AskTheSameBut key a b → ceiling_of documents a ≡ ceiling_of documents b
