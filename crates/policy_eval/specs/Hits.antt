-- What a statement is asked.
use Rattle.std.specs.Prelude.{◌≡◌, ◌⊎◌, Bool, List, Any, ⊤}
use Rattle.cond_ops.specs.declared.facts.RequestFacts.{RequestFacts}
use Rattle.kms_names.specs.declared.principals.Principal.{Principal}
use Rattle.policy_doc.specs.declared.policies.Named.{Named}
use Rattle.policy_doc.specs.declared.policies.Statement.{Statement}
use Rattle.policy_eval.specs.declared.naming.Naming.{Naming}
use Rattle.policy_eval.specs.declared.naming.Naming.TheVariants.{Anyone, Caller, Account, CallerOrAccount}
use Rattle.policy_eval.specs.Matching.{Matches}
use Rattle.policy_eval.specs.Naming.{NamesCaller, NamesAccount}

-- those named have whom is asked for
unfoldable pub IsNamed : Naming → List Named → Principal → Type 0
IsNamed Anyone names caller = ⊤
IsNamed Caller names caller = NamesCaller names caller
IsNamed Account names caller = NamesAccount names caller
IsNamed CallerOrAccount names caller = NamesCaller names caller ⊎ NamesAccount names caller

-- the statement is an Allow statement or a Deny statement, as is asked for, matches, and names whom is asked for
unfoldable pub Hits : Bool → Naming → Statement → RequestFacts → Type 0
Hits allow naming s request = (s.allow ≡ allow) × Matches s request × IsNamed naming s.principals request.caller

abbrev pub SomeHits : Bool → Naming → List Statement → RequestFacts → Type 0
SomeHits allow naming statements request = Any (λ s. Hits allow naming s request) statements
