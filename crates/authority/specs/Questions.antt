-- What policies are asked, put together as far as they ask it.
use Rattle.std.specs.Prelude.{◌≡◌, Bool, true, false, ℕ, List, [], codes, All, Option, Some, None}
use Rattle.policy_doc.specs.declared.policies.Policy.{Policy}
use Rattle.policy_eval.specs.Asking.{HasOneVerdictWithout}
use Rattle.policy_eval.specs.Laws.{HasOneVerdictByQuestion}
use Rattle.cond_ops.specs.declared.facts.RequestFacts.{RequestFacts}
use Rattle.authority.specs.Setting.{Setting, Asked, Particulars}
use Rattle.authority.specs.Facts.{request_of}

-- the names of the key's aliases, where they are gathered
abbrev pub names_if : Bool → List (List ℕ) → List (List ℕ)
names_if true names = names
names_if false names = []

-- what a request says of itself, its key's aliases only where they are gathered
abbrev pub gathered : Bool → Particulars → Particulars
gathered with_aliases particulars = record particulars { aliases = names_if with_aliases particulars.aliases }

abbrev pub asked_as_gathered : Bool → Asked → Asked
asked_as_gathered with_aliases asked = record { action = asked.action; resource = asked.resource; particulars = gathered with_aliases asked.particulars }

-- the caller, the action and the resource, and where they are wanted the condition keys, that of the key's aliases only where it is
-- wanted too
pub record SaysWhatIsAsked (setting : Setting) (asked : Asked) (wanted with_aliases : Bool) (request : RequestFacts) : Type 0 where
  pub caller : request.caller ≡ (request_of setting asked).caller
  pub action : request.action ≡ (request_of setting asked).action
  pub resource : request.resource ≡ (request_of setting asked).resource
  pub facts : wanted ≡ true → request ≡ request_of setting (asked_as_gathered with_aliases asked)

-- the verdicts of these policies go by the caller, the action and the resource alone
abbrev pub GoByQuestions : List Policy → Type 0
GoByQuestions policies = All (λ (p : Policy). HasOneVerdictByQuestion p) policies

abbrev pub KeyGoesByQuestion : Option Policy → Type 0
KeyGoesByQuestion None = Unit {0}
KeyGoesByQuestion (Some policy) = HasOneVerdictByQuestion policy

-- the condition key that has the names of the key's aliases
abbrev pub resource_aliases : List ℕ
resource_aliases = codes "kms:ResourceAliases"

-- the verdicts of these policies don't go by what a request says of it
abbrev pub GoWithoutAliases : List Policy → Type 0
GoWithoutAliases policies = All (λ (p : Policy). HasOneVerdictWithout resource_aliases p) policies

abbrev pub KeyGoesWithoutAliases : Option Policy → Type 0
KeyGoesWithoutAliases None = Unit {0}
KeyGoesWithoutAliases (Some policy) = HasOneVerdictWithout resource_aliases policy
