-- The verdict of a policy as a function: the one that `IsVerdict` relates it to. There is one, since each part of what
-- `IsVerdict` asks either holds or doesn't.
use Rattle.std.specs.Prelude.{ℕ, true, false, List, [], ◌∷◌, Any}
use Rattle.std.proofs.Common.{inl, inr}
use Rattle.std.specs.Cmp.{booleans_Decides}
use Rattle.kms_names.proofs.Decisions.{Decided, decided_by_test, decided_like, decided_not, decided_both, decided_either, decided_any, decided_all, decided_contains}
use Rattle.kms_names.proofs.GlobDecision.{decided_globs}
use Rattle.kms_names.specs.Action.{action_text}
use Rattle.kms_names.specs.ActionSet.{IsActionLike}
use Rattle.kms_names.specs.Glob.{lowercase_chars}
use Rattle.kms_names.specs.declared.principals.Principal.{Principal}
use Rattle.cond_ops.specs.declared.facts.RequestFacts.{RequestFacts}
use Rattle.cond_ops.specs.Holds.{Holds}
use Rattle.cond_ops.specs.Relation.{IsLike}
use Rattle.policy_doc.specs.declared.policies.Named.{Named}
use Rattle.policy_doc.specs.declared.policies.Named.TheVariants.{Everyone, One}
use Rattle.policy_doc.specs.declared.policies.Policy.{Policy}
use Rattle.policy_doc.specs.declared.policies.PolicyKind.{PolicyKind}
use Rattle.policy_doc.specs.declared.policies.PolicyKind.TheVariants.{Key, Identity}
use Rattle.policy_doc.specs.declared.policies.Statement.{Statement}
use Rattle.policy_doc.proofs.ConditionDecision.{decided_is_like, decided_holds}
use Rattle.policy_doc.proofs.NamedDecision.{same_named}
use Rattle.policy_eval.specs.declared.verdicts.Verdict.{Verdict}
use Rattle.policy_eval.specs.declared.verdicts.Verdict.TheVariants.{Deny, Direct, ByRoot, Silent}
use Rattle.policy_eval.specs.Matching.{ElementMatches, ActionMatches, ResourceMatches, ConditionsHold, Matches}
use Rattle.policy_eval.specs.Naming.{root_of, NamesCaller, NamesAccount}
use Rattle.policy_eval.specs.Verdict.{IsAllow, IsDeny, IsDenyOf, AllowsCaller, AllowsAccount, SomeDenies, SomeAllowsCaller, SomeAllowsAccount, IsKeyVerdict, IsIdentityVerdict, IsVerdictOf, IsVerdict}

-- ---- a statement matches or doesn't

decided_element : (IsMatch : List ℕ → Type 0) → ((text : List ℕ) → Decided (IsMatch text)) → (texts nots : List (List ℕ)) → Decided (ElementMatches IsMatch texts nots)
decided_element IsMatch each texts [] = decided_any IsMatch each texts
decided_element IsMatch each texts (text ∷ others) = decided_all (λ t. ¬ (IsMatch t)) (λ t. decided_not (each t)) (text ∷ others)

decided_action : (s : Statement) (request : RequestFacts) → Decided (ActionMatches s request.action)
unfolding ActionMatches
decided_action s request =
    decided_element (λ glob. IsActionLike glob request.action)
    (λ glob. decided_globs (lowercase_chars glob) (lowercase_chars (action_text request.action))) s.actions s.not_actions

decided_resource : (s : Statement) (request : RequestFacts) → Decided (ResourceMatches s request.resource)
unfolding ResourceMatches
decided_resource s request =
    decided_element (λ glob. IsLike request.resource glob) (λ glob. decided_is_like request.resource glob) s.resources s.not_resources

decided_conditions : (s : Statement) (request : RequestFacts) → Decided (ConditionsHold s request)
unfolding ConditionsHold
decided_conditions s request = decided_all (λ condition. Holds condition request) (λ condition. decided_holds condition request) s.conditions

decided_matches : (s : Statement) (request : RequestFacts) → Decided (Matches s request)
unfolding Matches
decided_matches s request =
    decided_like (λ h. (h.0, h.1.0, h.1.1)) (λ h. (h.0, (h.1, h.2)))
    (decided_both (decided_action s request) (decided_both (decided_resource s request) (decided_conditions s request)))

-- ---- whom it names

decided_caller : (names : List Named) (caller : Principal) → Decided (NamesCaller names caller)
decided_caller names caller = decided_either (decided_contains same_named names Everyone) (decided_contains same_named names (One caller))

decided_account : (names : List Named) (caller : Principal) → Decided (NamesAccount names caller)
decided_account names caller = decided_contains same_named names (One (root_of caller))

-- ---- statements of an effect

pub decided_allow : (request : RequestFacts) (s : Statement) → Decided (IsAllow s request)
unfolding IsAllow
decided_allow request s = decided_both (decided_by_test _ (booleans_Decides s.allow true)) (decided_matches s request)

pub decided_deny : (request : RequestFacts) (s : Statement) → Decided (IsDeny s request)
unfolding IsDeny
decided_deny request s = decided_both (decided_by_test _ (booleans_Decides s.allow false)) (decided_matches s request)

decided_deny_of : (request : RequestFacts) (s : Statement) → Decided (IsDenyOf s request)
unfolding IsDenyOf
decided_deny_of request s =
    decided_both (decided_deny request s) (decided_either (decided_caller s.principals request.caller) (decided_account s.principals request.caller))

decided_allows_caller : (request : RequestFacts) (s : Statement) → Decided (AllowsCaller s request)
unfolding AllowsCaller
decided_allows_caller request s = decided_both (decided_allow request s) (decided_caller s.principals request.caller)

decided_allows_account : (request : RequestFacts) (s : Statement) → Decided (AllowsAccount s request)
unfolding AllowsAccount
decided_allows_account request s = decided_both (decided_allow request s) (decided_account s.principals request.caller)

-- ---- the verdict

module _ (ss : List Statement) (request : RequestFacts) where
  key_verdict : Decided (SomeDenies ss request) → Decided (SomeAllowsCaller ss request) → Decided (SomeAllowsAccount ss request) → (verdict : Verdict) × IsKeyVerdict ss request verdict
  key_verdict (inl denies) caller account = (Deny, denies)
  key_verdict (inr none) (inl caller) account = (Direct, (none, caller))
  key_verdict (inr none) (inr not_caller) (inl account) = (ByRoot, (none, not_caller, account))
  key_verdict (inr none) (inr not_caller) (inr not_account) = (Silent, (none, not_caller, not_account))

  identity_verdict : Decided (Any (λ s. IsDeny s request) ss) → Decided (Any (λ s. IsAllow s request) ss) → (verdict : Verdict) × IsIdentityVerdict ss request verdict
  identity_verdict (inl denies) allows = (Deny, denies)
  identity_verdict (inr none) (inl allows) = (Direct, (none, allows))
  identity_verdict (inr none) (inr nor) = (Silent, (none, nor))

  some_verdict : (kind : PolicyKind) → (verdict : Verdict) × IsVerdictOf kind ss request verdict
  some_verdict Key =
      key_verdict (decided_any (λ s. IsDenyOf s request) (decided_deny_of request) ss)
      (decided_any (λ s. AllowsCaller s request) (decided_allows_caller request) ss)
      (decided_any (λ s. AllowsAccount s request) (decided_allows_account request) ss)
  some_verdict Identity =
      identity_verdict (decided_any (λ s. IsDeny s request) (decided_deny request) ss) (decided_any (λ s. IsAllow s request) (decided_allow request) ss)

-- the verdict of a policy: the one that it has by `IsVerdict`
pub verdict_of : Policy → RequestFacts → Verdict
verdict_of policy request = (some_verdict policy.statements request policy.kind).0

pub verdict_of_lem : (policy : Policy) (request : RequestFacts) → IsVerdict policy request (verdict_of policy request)
unfolding verdict_of
verdict_of_lem policy request = (some_verdict policy.statements request policy.kind).1
