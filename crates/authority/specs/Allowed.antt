-- Whether a request may be served (IAM User Guide, "Policy evaluation logic"; AWS KMS Developer Guide, "Key policies"; AWS
-- Organizations User Guide, "SCP evaluation").
use Rattle.std.specs.Prelude.{◌↔◌, ◌⊎◌, ◌≡◌, ◌&&◌, ◌||◌, Bool, true, false, not, IsTrue, List, [], All, Any, Option, Some, None, if◌then◌else◌}
use Rattle.std.specs.List.{list_any}
use Rattle.kms_names.specs.declared.principals.Principal.{Principal}
use Rattle.cond_ops.specs.declared.facts.RequestFacts.{RequestFacts}
use Rattle.policy_doc.specs.declared.policies.Policy.{Policy}
use Rattle.policy_doc.specs.declared.policies.PolicyKind.TheVariants.{Key, Identity}
use Rattle.policy_eval.specs.declared.verdicts.Verdict.{Verdict}
use Rattle.policy_eval.specs.declared.verdicts.Verdict.TheVariants.{Deny, Direct, ByRoot, Silent}
use Rattle.policy_eval.specs.declared.ceilings.CeilingVerdict.{CeilingVerdict}
use Rattle.policy_eval.specs.declared.ceilings.CeilingVerdict.TheVariants.{Passes, Stops}
use Rattle.policy_eval.specs.Ceiling.{Under}
use Rattle.policy_eval.specs.CeilingOf.{ceiling_of}
use Rattle.policy_eval.specs.Verdict.{IsAllow, IsDeny, SomeDenies, SomeAllowsCaller, SomeAllowsAccount}
use Rattle.policy_eval.specs.VerdictOf.{verdict_of}
use Rattle.authority.specs.declared.standings.Standing.{Standing}
use Rattle.authority.specs.declared.standings.Standing.TheVariants.{Denied, Allowed, IfGranted}
use Rattle.authority.specs.Setting.{Setting, Asked, is_root}
use Rattle.authority.specs.Facts.{request_of}

-- ---- the caller's own policies

abbrev pub is_deny : Verdict → Bool
is_deny Deny = true
is_deny Direct = false
is_deny ByRoot = false
is_deny Silent = false

abbrev pub is_direct : Verdict → Bool
is_direct Deny = false
is_direct Direct = true
is_direct ByRoot = false
is_direct Silent = false

abbrev pub is_by_root : Verdict → Bool
is_by_root Deny = false
is_by_root Direct = false
is_by_root ByRoot = true
is_by_root Silent = false

-- some of these policies denies it, some allows it
abbrev pub some_deny : List Policy → RequestFacts → Bool
some_deny policies request = list_any (λ (p : Policy). is_deny (verdict_of p request)) policies

abbrev pub some_allow : List Policy → RequestFacts → Bool
some_allow policies request = list_any (λ (p : Policy). is_direct (verdict_of p request)) policies

-- it is the root, or some policy allows it
abbrev pub own_allow : Principal → List Policy → RequestFacts → Bool
own_allow caller policies request = if is_root caller then true else some_allow policies request

-- the caller is allowed it: nothing denies it, and it is the root, or some policy allows it
abbrev pub identity_allows : Principal → List Policy → RequestFacts → Bool
identity_allows caller policies request = not (some_deny policies request) && own_allow caller policies request

-- ---- a question

-- without a key: the caller is allowed it
abbrev pub own_standing : Bool → Standing
own_standing allowed = if allowed then Allowed else Denied

-- on a key: denied where its policy or one of the caller's denies it; allowed where its policy allows it directly, or by the
-- root of the account while the caller is allowed it; else a grant may still permit it
abbrev pub key_standing : Verdict → Bool → Bool → Standing
key_standing verdict denied allowed =
    if is_deny verdict || denied then Denied else if is_direct verdict || (is_by_root verdict && allowed) then Allowed else IfGranted

-- with the policy of the key, where the question is about one
abbrev pub standing : Principal → List Policy → Option Policy → RequestFacts → Standing
standing caller policies None request = own_standing (identity_allows caller policies request)
standing caller policies (Some policy) request = key_standing (verdict_of policy request) (some_deny policies request) (identity_allows caller policies request)

-- what a ceiling leaves of it
abbrev pub bounded : CeilingVerdict → Standing → Standing
bounded Passes standing = standing
bounded Stops standing = Denied

-- with the documents of the account's ceiling: what they stop is denied, whoever asks
abbrev pub bounded_standing : Setting → Option Policy → RequestFacts → Standing
bounded_standing setting policy request = bounded (ceiling_of setting.ceiling request) (standing setting.caller setting.policies policy request)

-- what policies say of a question
unfoldable pub standing_of : Setting → Option Policy → Asked → Standing
standing_of setting policy asked = bounded_standing setting policy (request_of setting asked)

-- whether it is allowed, where a live grant permits it or none does
abbrev pub settled : Standing → Bool → Bool
settled Denied granted = false
settled Allowed granted = true
settled IfGranted granted = granted

abbrev pub is_allowed : Setting → Option Policy → Asked → Bool → Bool
is_allowed setting policy asked granted = settled (standing_of setting policy asked) granted

-- ---- the same in terms of statements

-- a statement of one of the caller's policies denies it, allows it
abbrev pub IdentityDenies : Setting → RequestFacts → Type 0
IdentityDenies setting request = Any (λ (p : Policy). Any (λ s. IsDeny s request) p.statements) setting.policies

abbrev pub IdentityAllows : Setting → RequestFacts → Type 0
IdentityAllows setting request = IsTrue (is_root setting.caller) ⊎ Any (λ (p : Policy). Any (λ s. IsAllow s request) p.statements) setting.policies

-- no statement denies it, and a statement of the key's policy allows the caller, or allows the root of the account while a
-- statement of the caller's policies allows it, or a grant permits it
abbrev pub MayOnKey : Setting → Policy → Bool → RequestFacts → Type 0
MayOnKey setting policy granted request =
    ¬ (SomeDenies policy.statements request) × ¬ (IdentityDenies setting request)
    × (SomeAllowsCaller policy.statements request ⊎ (SomeAllowsAccount policy.statements request × IdentityAllows setting request) ⊎ IsTrue granted)

-- without a key a statement of the caller's policies allows it, and none denies it; a grant doesn't count
abbrev pub MayWithoutKey : Setting → RequestFacts → Type 0
MayWithoutKey setting request = ¬ (IdentityDenies setting request) × IdentityAllows setting request

-- by the policies of the key, where the question is about one, and of the caller
abbrev pub MayByPolicies : Setting → Option Policy → Bool → RequestFacts → Type 0
MayByPolicies setting None granted request = MayWithoutKey setting request
MayByPolicies setting (Some policy) granted request = MayOnKey setting policy granted request

-- the account's ceiling lets it pass, and these policies allow it
abbrev pub May : Setting → Option Policy → Bool → RequestFacts → Type 0
May setting policy granted request = Under setting.ceiling request × MayByPolicies setting policy granted request

-- the policies have the kinds of what they are attached to
abbrev pub IsKeyPolicy : Option Policy → Type 0
IsKeyPolicy None = Unit {0}
IsKeyPolicy (Some policy) = policy.kind ≡ Key

abbrev pub AreIdentityPolicies : List Policy → Type 0
AreIdentityPolicies policies = All (λ (p : Policy). p.kind ≡ Identity) policies

-- a question is allowed exactly where statements say so
abbrev pub AllowedByStatements : Type 0
AllowedByStatements =
    (setting : Setting) (policy : Option Policy) (asked : Asked) (granted : Bool) → IsKeyPolicy policy → AreIdentityPolicies setting.policies
    → IsTrue (is_allowed setting policy asked granted) ↔ May setting policy granted (request_of setting asked)

-- ---- an account without a ceiling

-- what policies say of a question is what the policies of the key and of the caller say
abbrev pub StandsByPoliciesAlone : Type 0
StandsByPoliciesAlone =
    (setting : Setting) (policy : Option Policy) (asked : Asked) → setting.ceiling ≡ []
    → standing_of setting policy asked ≡ standing setting.caller setting.policies policy (request_of setting asked)

-- and a question is allowed exactly where their statements say so
abbrev pub AllowedByPoliciesAlone : Type 0
AllowedByPoliciesAlone =
    (setting : Setting) (policy : Option Policy) (asked : Asked) (granted : Bool) → setting.ceiling ≡ [] → IsKeyPolicy policy → AreIdentityPolicies setting.policies
    → IsTrue (is_allowed setting policy asked granted) ↔ MayByPolicies setting policy granted (request_of setting asked)
