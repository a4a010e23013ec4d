-- Verdicts of requests of which the conditions of all statements say the same.
use Rattle.std.proofs.Common.{◌≡◌, ◌≢◌, ◌⊎◌, ℕ, ◌<◌, List, [], ◌∷◌, length, refl, sym, subst, get_or}
use Rattle.std.specs.Prelude.{All, Any}
use Rattle.std.proofs.lemmas.List.Elements.{All-nil}
use Rattle.cond_ops.specs.declared.facts.RequestFacts.{RequestFacts}
use Rattle.cond_ops.specs.Holds.{Holds}
use Rattle.policy_doc.specs.declared.policies.Policy.{Policy}
use Rattle.policy_doc.specs.declared.policies.PolicyKind.{PolicyKind}
use Rattle.policy_doc.specs.declared.policies.PolicyKind.TheVariants.{Key, Identity}
use Rattle.policy_doc.specs.declared.policies.Statement.{Statement}
use Rattle.policy_eval.specs.declared.verdicts.Verdict.{Verdict}
use Rattle.policy_eval.specs.declared.verdicts.Verdict.TheVariants.{Deny, Direct, ByRoot, Silent}
use Rattle.policy_eval.specs.Matching.{ActionMatches, ResourceMatches, ConditionsHold, Matches}
use Rattle.policy_eval.specs.Naming.{NamesCaller, NamesAccount}
use Rattle.policy_eval.specs.Verdict.{IsAllow, IsDeny, IsDenyOf, AllowsCaller, AllowsAccount, SomeDenies, SomeAllowsCaller, SomeAllowsAccount, IsKeyVerdict, IsIdentityVerdict, IsVerdictOf, IsVerdict, SomeHasConditions, HasConditions, AskTheSame, GoesByQuestion}
use Rattle.policy_eval.specs.Laws.{HasOneVerdictByQuestion}
use Rattle.policy_eval.specs.VerdictOf.{verdict_of, verdict_of_lem}
use Rattle.policy_eval.specs.Asking.{AsksFor, AskTheSameBut, GoesWithout, HasOneVerdictWithout}
use Rattle.policy_eval.proofs.AskingFacts.{conditions_too, but_turned}

module _ {X : Type 0} (P Q : X → Type 0) where
  pub any_so : (xs : List X) → ((x : X) (k : ℕ) → k < length xs → get_or xs k x ≡ x → P x → Q x) → Any P xs → Any Q xs
  any_so xs so (k, x, lt, at, p) = (k, x, lt, at, so x k lt at p)

-- a statement whose conditions hold of the second request where they hold of the first
module _ (s : Statement) (a b : RequestFacts) (same : AskTheSame a b) (hold : ConditionsHold s a → ConditionsHold s b) where
  matches_too : Matches s a → Matches s b
  unfolding Matches
  matches_too (action, resource, conditions) = (subst (ActionMatches s) same.1 action, subst (ResourceMatches s) same.2 resource, hold conditions)

  allow_too : IsAllow s a → IsAllow s b
  unfolding IsAllow
  allow_too (effect, matches) = (effect, matches_too matches)

  deny_too : IsDeny s a → IsDeny s b
  unfolding IsDeny
  deny_too (effect, matches) = (effect, matches_too matches)

  deny_of_too : IsDenyOf s a → IsDenyOf s b
  unfolding IsDenyOf
  deny_of_too (deny, names) = (deny_too deny, subst (λ p. NamesCaller s.principals p ⊎ NamesAccount s.principals p) same.0 names)

  allows_caller_too : AllowsCaller s a → AllowsCaller s b
  unfolding AllowsCaller
  allows_caller_too (allow, names) = (allow_too allow, subst (NamesCaller s.principals) same.0 names)

  allows_account_too : AllowsAccount s a → AllowsAccount s b
  unfolding AllowsAccount
  allows_account_too (allow, names) = (allow_too allow, subst (NamesAccount s.principals) same.0 names)

pub turned : (a b : RequestFacts) → AskTheSame a b → AskTheSame b a
turned a b same = (sym same.0, sym same.1, sym same.2)

-- requests that are alike by the same caller, for the same action on the same resource
pub record IsLikeness (Alike : RequestFacts → RequestFacts → Type 0) : Type 0 where
  pub asks : (a b : RequestFacts) → Alike a b → AskTheSame a b
  pub turns : (a b : RequestFacts) → Alike a b → Alike b a

-- the conditions of these statements say the same of requests that are alike
abbrev pub SayTheSame : (RequestFacts → RequestFacts → Type 0) → List Statement → Type 0
SayTheSame Alike ss =
    (a b : RequestFacts) → Alike a b → (s : Statement) (k : ℕ) → k < length ss → get_or ss k s ≡ s → ConditionsHold s a → ConditionsHold s b

module _ (Alike : RequestFacts → RequestFacts → Type 0) (likeness : IsLikeness Alike) (ss : List Statement) (say : SayTheSame Alike ss) where
  denies_too : (a b : RequestFacts) → Alike a b → SomeDenies ss a → SomeDenies ss b
  denies_too a b same =
      any_so (λ s. IsDenyOf s a) (λ s. IsDenyOf s b) ss (λ s k lt at. deny_of_too s a b (likeness.asks a b same) (say a b same s k lt at))

  callers_too : (a b : RequestFacts) → Alike a b → SomeAllowsCaller ss a → SomeAllowsCaller ss b
  callers_too a b same =
      any_so (λ s. AllowsCaller s a) (λ s. AllowsCaller s b) ss (λ s k lt at. allows_caller_too s a b (likeness.asks a b same) (say a b same s k lt at))

  accounts_too : (a b : RequestFacts) → Alike a b → SomeAllowsAccount ss a → SomeAllowsAccount ss b
  accounts_too a b same =
      any_so (λ s. AllowsAccount s a) (λ s. AllowsAccount s b) ss (λ s k lt at. allows_account_too s a b (likeness.asks a b same) (say a b same s k lt at))

  pub some_deny_too : (a b : RequestFacts) → Alike a b → Any (λ s. IsDeny s a) ss → Any (λ s. IsDeny s b) ss
  some_deny_too a b same = any_so (λ s. IsDeny s a) (λ s. IsDeny s b) ss (λ s k lt at. deny_too s a b (likeness.asks a b same) (say a b same s k lt at))

  pub some_allow_too : (a b : RequestFacts) → Alike a b → Any (λ s. IsAllow s a) ss → Any (λ s. IsAllow s b) ss
  some_allow_too a b same = any_so (λ s. IsAllow s a) (λ s. IsAllow s b) ss (λ s k lt at. allow_too s a b (likeness.asks a b same) (say a b same s k lt at))

  module _ (a b : RequestFacts) (same : Alike a b) where
    key_too : (verdict : Verdict) → IsKeyVerdict ss a verdict → IsKeyVerdict ss b verdict
    key_too Deny d = denies_too a b same d
    key_too Direct (d, c) = (λ h. d (denies_too b a (likeness.turns a b same) h), callers_too a b same c)
    key_too ByRoot (d, c, r) = (λ h. d (denies_too b a (likeness.turns a b same) h), λ h. c (callers_too b a (likeness.turns a b same) h), accounts_too a b same r)
    key_too Silent (d, c, r) = (λ h. d (denies_too b a (likeness.turns a b same) h), λ h. c (callers_too b a (likeness.turns a b same) h), λ h. r (accounts_too b a (likeness.turns a b same) h))

    identity_too : (verdict : Verdict) → IsIdentityVerdict ss a verdict → IsIdentityVerdict ss b verdict
    identity_too Deny d = some_deny_too a b same d
    identity_too Direct (d, c) = (λ h. d (some_deny_too b a (likeness.turns a b same) h), some_allow_too a b same c)
    identity_too ByRoot h = h
    identity_too Silent (d, c) = (λ h. d (some_deny_too b a (likeness.turns a b same) h), λ h. c (some_allow_too b a (likeness.turns a b same) h))

    pub verdict_too : (kind : PolicyKind) (verdict : Verdict) → IsVerdictOf kind ss a verdict → IsVerdictOf kind ss b verdict
    verdict_too Key verdict h = key_too verdict h
    verdict_too Identity verdict h = identity_too verdict h

pub no_conditions : (s : Statement) → ¬ (s.conditions ≢ []) → s.conditions ≡ []
no_conditions s h = empty s.conditions h
  where
    empty : {X : Type 0} (xs : List X) → ¬ (xs ≢ []) → xs ≡ []
    empty [] h = refl
    empty (x ∷ xs) h = absurd (h (λ e. cc))

-- statements without conditions
pub by_question : IsLikeness AskTheSame
by_question = record { asks = λ a b same. same; turns = turned }

pub nothing_said : (ss : List Statement) → ¬ (SomeHasConditions ss) → SayTheSame AskTheSame ss
unfolding ConditionsHold
nothing_said ss none a b same s k lt at hold =
    subst (All (λ condition. Holds condition b)) (sym (no_conditions s (λ some. none (k, s, lt, at, some)))) (All-nil (λ condition. Holds condition b))

pub goes_by_question : (policy : Policy) → ¬ (HasConditions policy) → GoesByQuestion policy
goes_by_question policy none a b verdict same h =
    verdict_too AskTheSame by_question policy.statements (nothing_said policy.statements none) a b same policy.kind verdict h

-- statements none of which asks for a condition key
pub but_one : (key : List ℕ) → IsLikeness (AskTheSameBut key)
but_one key = record { asks = λ a b same. same.0; turns = but_turned key }

pub goes_without : (key : List ℕ) (policy : Policy) → ¬ (AsksFor key policy) → GoesWithout key policy
goes_without key policy none a b verdict same h =
    verdict_too (AskTheSameBut key) (but_one key) policy.statements (conditions_too key policy.statements none) a b same policy.kind verdict h

-- a policy has one verdict
one_key_verdict : (ss : List Statement) (r : RequestFacts) (v w : Verdict) → IsKeyVerdict ss r v → IsKeyVerdict ss r w → v ≡ w
one_key_verdict ss r Deny Deny a b = refl
one_key_verdict ss r Deny Direct a b = absurd (b.0 a)
one_key_verdict ss r Deny ByRoot a b = absurd (b.0 a)
one_key_verdict ss r Deny Silent a b = absurd (b.0 a)
one_key_verdict ss r Direct Deny a b = absurd (a.0 b)
one_key_verdict ss r Direct Direct a b = refl
one_key_verdict ss r Direct ByRoot a b = absurd (b.1 a.1)
one_key_verdict ss r Direct Silent a b = absurd (b.1 a.1)
one_key_verdict ss r ByRoot Deny a b = absurd (a.0 b)
one_key_verdict ss r ByRoot Direct a b = absurd (a.1 b.1)
one_key_verdict ss r ByRoot ByRoot a b = refl
one_key_verdict ss r ByRoot Silent a b = absurd (b.2 a.2)
one_key_verdict ss r Silent Deny a b = absurd (a.0 b)
one_key_verdict ss r Silent Direct a b = absurd (a.1 b.1)
one_key_verdict ss r Silent ByRoot a b = absurd (a.2 b.2)
one_key_verdict ss r Silent Silent a b = refl

one_identity_verdict : (ss : List Statement) (r : RequestFacts) (v w : Verdict) → IsIdentityVerdict ss r v → IsIdentityVerdict ss r w → v ≡ w
one_identity_verdict ss r ByRoot w a b = absurd a
one_identity_verdict ss r Deny ByRoot a b = absurd b
one_identity_verdict ss r Direct ByRoot a b = absurd b
one_identity_verdict ss r Silent ByRoot a b = absurd b
one_identity_verdict ss r Deny Deny a b = refl
one_identity_verdict ss r Deny Direct a b = absurd (b.0 a)
one_identity_verdict ss r Deny Silent a b = absurd (b.0 a)
one_identity_verdict ss r Direct Deny a b = absurd (a.0 b)
one_identity_verdict ss r Direct Direct a b = refl
one_identity_verdict ss r Direct Silent a b = absurd (b.1 a.1)
one_identity_verdict ss r Silent Deny a b = absurd (a.0 b)
one_identity_verdict ss r Silent Direct a b = absurd (a.1 b.1)
one_identity_verdict ss r Silent Silent a b = refl

one_verdict_of : (kind : PolicyKind) (ss : List Statement) (r : RequestFacts) (v w : Verdict) → IsVerdictOf kind ss r v → IsVerdictOf kind ss r w → v ≡ w
one_verdict_of Key ss r v w a b = one_key_verdict ss r v w a b
one_verdict_of Identity ss r v w a b = one_identity_verdict ss r v w a b

pub one_verdict : (policy : Policy) (r : RequestFacts) (v w : Verdict) → IsVerdict policy r v → IsVerdict policy r w → v ≡ w
one_verdict policy r v w a b = one_verdict_of policy.kind policy.statements r v w a b

-- the verdict that stands in the relation is that of the function
pub the_verdict : (policy : Policy) (r : RequestFacts) (v : Verdict) → IsVerdict policy r v → v ≡ verdict_of policy r
the_verdict policy r v h = one_verdict policy r v (verdict_of policy r) h (verdict_of_lem policy r)

pub one_by_question : (policy : Policy) → GoesByQuestion policy → HasOneVerdictByQuestion policy
one_by_question policy goes a b same = the_verdict policy b (verdict_of policy a) (goes a b (verdict_of policy a) same (verdict_of_lem policy a))

pub one_without : (key : List ℕ) (policy : Policy) → GoesWithout key policy → HasOneVerdictWithout key policy
one_without key policy goes a b same = the_verdict policy b (verdict_of policy a) (goes a b (verdict_of policy a) same (verdict_of_lem policy a))
