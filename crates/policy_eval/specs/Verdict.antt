-- What a policy says of a request (IAM User Guide, "Policy evaluation logic": an explicit Deny overrides any Allow, and
-- without an Allow nothing is allowed; AWS KMS Developer Guide, "Key policies": an Allow for the account's root
-- lets the account's identity policies allow).
use Rattle.std.specs.Prelude.{◌≡◌, ◌≢◌, ◌⊎◌, true, false, List, [], Any}
use Rattle.cond_ops.specs.declared.facts.RequestFacts.{RequestFacts}
use Rattle.policy_doc.specs.declared.policies.Policy.{Policy}
use Rattle.policy_doc.specs.declared.policies.PolicyKind.{PolicyKind}
use Rattle.policy_doc.specs.declared.policies.PolicyKind.TheVariants.{Key, Identity}
use Rattle.policy_doc.specs.declared.policies.Statement.{Statement}
use Rattle.policy_eval.specs.declared.verdicts.Verdict.{Verdict}
use Rattle.policy_eval.specs.declared.verdicts.Verdict.TheVariants.{Deny, Direct, ByRoot, Silent}
use Rattle.policy_eval.specs.Matching.{Matches}
use Rattle.policy_eval.specs.Naming.{NamesCaller, NamesAccount}

-- a statement of this effect matches the request
unfoldable pub IsAllow : Statement → RequestFacts → Type 0
IsAllow s request = (s.allow ≡ true) × Matches s request

unfoldable pub IsDeny : Statement → RequestFacts → Type 0
IsDeny s request = (s.allow ≡ false) × Matches s request

-- in a key policy: a Deny statement matches, and names the caller, everyone, or the root of the caller's account
unfoldable pub IsDenyOf : Statement → RequestFacts → Type 0
IsDenyOf s request = IsDeny s request × (NamesCaller s.principals request.caller ⊎ NamesAccount s.principals request.caller)

-- an Allow statement matches, and names the caller or everyone
unfoldable pub AllowsCaller : Statement → RequestFacts → Type 0
AllowsCaller s request = IsAllow s request × NamesCaller s.principals request.caller

-- an Allow statement matches, and names the root of the caller's account
unfoldable pub AllowsAccount : Statement → RequestFacts → Type 0
AllowsAccount s request = IsAllow s request × NamesAccount s.principals request.caller

-- some statement does
abbrev pub SomeDenies : List Statement → RequestFacts → Type 0
SomeDenies statements request = Any (λ s. IsDenyOf s request) statements

abbrev pub SomeAllowsCaller : List Statement → RequestFacts → Type 0
SomeAllowsCaller statements request = Any (λ s. AllowsCaller s request) statements

abbrev pub SomeAllowsAccount : List Statement → RequestFacts → Type 0
SomeAllowsAccount statements request = Any (λ s. AllowsAccount s request) statements

-- the verdict of a key policy's statements
abbrev pub IsKeyVerdict : List Statement → RequestFacts → Verdict → Type 0
IsKeyVerdict statements request Deny = SomeDenies statements request
IsKeyVerdict statements request Direct = ¬ (SomeDenies statements request) × SomeAllowsCaller statements request
IsKeyVerdict statements request ByRoot = ¬ (SomeDenies statements request) × ¬ (SomeAllowsCaller statements request) × SomeAllowsAccount statements request
IsKeyVerdict statements request Silent = ¬ (SomeDenies statements request) × ¬ (SomeAllowsCaller statements request) × ¬ (SomeAllowsAccount statements request)

-- the verdict of an identity policy's statements, which are about the principal that has the policy
abbrev pub IsIdentityVerdict : List Statement → RequestFacts → Verdict → Type 0
IsIdentityVerdict statements request Deny = Any (λ s. IsDeny s request) statements
IsIdentityVerdict statements request Direct = ¬ (Any (λ s. IsDeny s request) statements) × Any (λ s. IsAllow s request) statements
IsIdentityVerdict statements request ByRoot = ⊥
IsIdentityVerdict statements request Silent = ¬ (Any (λ s. IsDeny s request) statements) × ¬ (Any (λ s. IsAllow s request) statements)

-- the verdict of a policy, by its kind
abbrev pub IsVerdictOf : PolicyKind → List Statement → RequestFacts → Verdict → Type 0
IsVerdictOf Key statements request verdict = IsKeyVerdict statements request verdict
IsVerdictOf Identity statements request verdict = IsIdentityVerdict statements request verdict

abbrev pub IsVerdict : Policy → RequestFacts → Verdict → Type 0
IsVerdict policy request verdict = IsVerdictOf policy.kind policy.statements request verdict

-- some statement has a condition
abbrev pub SomeHasConditions : List Statement → Type 0
SomeHasConditions statements = Any (λ (s : Statement). s.conditions ≢ []) statements

abbrev pub HasConditions : Policy → Type 0
HasConditions policy = SomeHasConditions policy.statements

-- two requests by the same caller, for the same action on the same resource
abbrev pub AskTheSame : RequestFacts → RequestFacts → Type 0
AskTheSame a b = (a.caller ≡ b.caller) × (a.action ≡ b.action) × (a.resource ≡ b.resource)

-- the policy's verdicts go by the caller, the action and the resource alone
abbrev pub GoesByQuestion : Policy → Type 0
GoesByQuestion policy = (a b : RequestFacts) (verdict : Verdict) → AskTheSame a b → IsVerdict policy a verdict → IsVerdict policy b verdict
