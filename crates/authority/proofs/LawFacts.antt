-- A question is allowed exactly where statements say so.
use Rattle.std.proofs.Common.{◌≡◌, ◌⊎◌, inl, inr, ℕ, ◌<◌, length, get_or, Bool, true, false, not, ◌&&◌, List, [], Option, Some, None, refl, sym, ap, subst, ◌∙◌, if◌then◌else◌}
use Rattle.std.specs.Prelude.{◌↔◌, IsTrue, Any}
use Rattle.std.proofs.lemmas.List.Folds.{Any-from_list_any, list_any-from_Any}
use Rattle.cond_ops.specs.declared.facts.RequestFacts.{RequestFacts}
use Rattle.policy_doc.specs.declared.policies.Policy.{Policy}
use Rattle.policy_doc.specs.declared.policies.PolicyKind.{PolicyKind}
use Rattle.policy_doc.specs.declared.policies.PolicyKind.TheVariants.{Identity}
use Rattle.policy_doc.specs.declared.policies.Statement.{Statement}
use Rattle.policy_eval.specs.declared.verdicts.Verdict.{Verdict}
use Rattle.policy_eval.specs.declared.verdicts.Verdict.TheVariants.{Deny, Direct, ByRoot, Silent}
use Rattle.policy_eval.specs.declared.ceilings.CeilingVerdict.{CeilingVerdict}
use Rattle.policy_eval.specs.declared.ceilings.CeilingVerdict.TheVariants.{Passes, Stops}
use Rattle.policy_eval.specs.CeilingOf.{ceiling_of, ceiling_of_lem}
use Rattle.policy_eval.proofs.CeilingFacts.{none_stops}
use Rattle.policy_eval.specs.Verdict.{IsAllow, IsDeny, SomeDenies, SomeAllowsCaller, SomeAllowsAccount, IsKeyVerdict, IsIdentityVerdict, IsVerdictOf}
use Rattle.policy_eval.specs.VerdictOf.{verdict_of, verdict_of_lem}
use Rattle.authority.specs.declared.standings.Standing.{Standing}
use Rattle.authority.specs.Setting.{Setting, Asked, is_root}
use Rattle.authority.specs.Facts.{request_of}
use Rattle.authority.specs.Allowed.{is_deny, is_direct, some_deny, some_allow, identity_allows, own_standing, key_standing, standing, bounded, standing_of, settled, is_allowed, IdentityDenies, IdentityAllows, MayByPolicies, May, IsKeyPolicy, AreIdentityPolicies, AllowedByStatements, StandsByPoliciesAlone, AllowedByPoliciesAlone}

module _ (request : RequestFacts) where
  abbrev Denies : Policy → Type 0
  Denies p = Any (λ s. IsDeny s request) p.statements

  abbrev Allows : Policy → Type 0
  Allows p = Any (λ s. IsAllow s request) p.statements

  -- ---- one identity policy

  identity_is : (p : Policy) → p.kind ≡ Identity → IsIdentityVerdict p.statements request (verdict_of p request)
  identity_is p kind = subst (λ (k : PolicyKind). IsVerdictOf k p.statements request (verdict_of p request)) kind (verdict_of_lem p request)

  deny_tells : (p : Policy) (v : Verdict) → IsIdentityVerdict p.statements request v → (IsTrue (is_deny v) → Denies p) × (Denies p → IsTrue (is_deny v))
  deny_tells p Deny is = (λ _. is, λ _. refl)
  deny_tells p Direct is = (λ t. cc, λ d. absurd (is.0 d))
  deny_tells p ByRoot is = absurd is
  deny_tells p Silent is = (λ t. cc, λ d. absurd (is.0 d))

  -- a policy that doesn't deny gives Direct where it allows
  direct_tells : (p : Policy) (v : Verdict) → IsIdentityVerdict p.statements request v → (IsTrue (is_direct v) → Allows p) × (¬ (Denies p) → Allows p → IsTrue (is_direct v))
  direct_tells p Deny is = (λ t. cc, λ none a. absurd (none is))
  direct_tells p Direct is = (λ _. is.1, λ _ _. refl)
  direct_tells p ByRoot is = absurd is
  direct_tells p Silent is = (λ t. cc, λ none a. absurd (is.1 a))

  -- ---- the caller's policies

  module _ (policies : List Policy) (kinds : AreIdentityPolicies policies) where
    kind_at : (k : ℕ) (p : Policy) → k < length policies → get_or policies k p ≡ p → p.kind ≡ Identity
    kind_at k p lt at = subst (λ (q : Policy). q.kind ≡ Identity) at (kinds k p lt)

    denies_of : some_deny policies request ≡ true → Any Denies policies
    denies_of e =
        let (k, p, lt, at, h) = Any-from_list_any (λ (p : Policy). is_deny (verdict_of p request)) policies e in
        (k, p, lt, at, (deny_tells p (verdict_of p request) (identity_is p (kind_at k p lt at))).0 h)

    denies_from : Any Denies policies → some_deny policies request ≡ true
    denies_from (k, p, lt, at, d) =
        list_any-from_Any (λ (p : Policy). is_deny (verdict_of p request)) policies (k, p, lt, at, (deny_tells p (verdict_of p request) (identity_is p (kind_at k p lt at))).1 d)

    allows_of : some_allow policies request ≡ true → Any Allows policies
    allows_of e =
        let (k, p, lt, at, h) = Any-from_list_any (λ (p : Policy). is_direct (verdict_of p request)) policies e in
        (k, p, lt, at, (direct_tells p (verdict_of p request) (identity_is p (kind_at k p lt at))).0 h)

    allows_from : ¬ (Any Denies policies) → Any Allows policies → some_allow policies request ≡ true
    allows_from none (k, p, lt, at, a) =
        list_any-from_Any (λ (p : Policy). is_direct (verdict_of p request)) policies
        (k, p, lt, at, (direct_tells p (verdict_of p request) (identity_is p (kind_at k p lt at))).1 (λ d. none (k, p, lt, at, d)) a)

-- ---- by tests

no_both : (b : Bool) → b ≡ false → b ≡ true → ⊥
no_both b e f = let bad : false ≡ true = sym e ∙ f in cc

identity_by : {D A : Type 0} (d r a : Bool) → (d ≡ true → D) → (D → d ≡ true) → (a ≡ true → A) → (¬ D → A → a ≡ true)
    → IsTrue (not d && (if r then true else a)) ↔ (¬ D × (IsTrue r ⊎ A))
identity_by true r a of from_d of_a from_a = (λ e. cc, λ h. absurd (h.0 (of refl)))
identity_by false true a of from_d of_a from_a = (λ e. (λ x. no_both false refl (from_d x), inl refl), λ h. refl)
identity_by false false a of from_d of_a from_a = (
  λ e. (λ x. no_both false refl (from_d x), inr (of_a e)),
  λ h. elim h.1 [ inl t ↦ cc | inr x ↦ from_a h.0 x ],
)

key_by : {D I : Type 0} (statements : List Statement) (request : RequestFacts) (v : Verdict) → IsKeyVerdict statements request v → (d i g : Bool) → (d ≡ true → D) → (D → d ≡ true) → IsTrue i ↔ (¬ D × I)
    → IsTrue (settled (key_standing v d i) g) ↔ (¬ (SomeDenies statements request) × ¬ D × (SomeAllowsCaller statements request ⊎ (SomeAllowsAccount statements request × I) ⊎ IsTrue g))
key_by statements request Deny is d i g of from_d tells = (λ e. cc, λ h. absurd (h.0 is))
key_by statements request Direct is true i g of from_d tells = (λ e. cc, λ h. absurd (h.1 (of refl)))
key_by statements request Direct is false i g of from_d tells = (λ e. (is.0, λ x. no_both false refl (from_d x), inl is.1), λ h. refl)
key_by statements request ByRoot is true i g of from_d tells = (λ e. cc, λ h. absurd (h.1 (of refl)))
key_by statements request ByRoot is false true g of from_d tells = (λ e. let told = tells.0 refl in (is.0, told.0, inr (inl (is.2, told.1))), λ h. refl)
key_by statements request ByRoot is false false g of from_d tells = (
  λ e. (is.0, λ x. no_both false refl (from_d x), inr (inr e)),
  λ h. elim h.2 [
    | inl caller ↦ absurd (is.1 caller)
    | inr rest ↦ elim rest [ inl account ↦ absurd (no_both false refl (tells.1 (h.1, account.1))) | inr given ↦ given ]
  ],
)
key_by statements request Silent is true i g of from_d tells = (λ e. cc, λ h. absurd (h.1 (of refl)))
key_by statements request Silent is false i g of from_d tells = (
  λ e. (is.0, λ x. no_both false refl (from_d x), inr (inr e)),
  λ h. elim h.2 [
    | inl caller ↦ absurd (is.1 caller)
    | inr rest ↦ elim rest [ inl account ↦ absurd (is.2 account.0) | inr given ↦ given ]
  ],
)

-- without a key a grant doesn't count
own_by : {P : Type 0} (a g : Bool) → IsTrue a ↔ P → IsTrue (settled (own_standing a) g) ↔ P
own_by true g tells = tells
own_by false g tells = tells

-- under a ceiling
under_by : {U M : Type 0} (v : CeilingVerdict) (s : Standing) (g : Bool) → (v ≡ Passes) ↔ U → IsTrue (settled s g) ↔ M → IsTrue (settled (bounded v s) g) ↔ (U × M)
under_by Passes s g passes tells = (λ e. (passes.0 refl, tells.0 e), λ h. tells.1 h.1)
under_by Stops s g passes tells = (λ e. cc, λ h. let bad : Stops ≡ Passes = passes.1 h.0 in cc)

-- ---- the law

module _ (setting : Setting) (asked : Asked) (kinds : AreIdentityPolicies setting.policies) where
  abbrev request : RequestFacts
  request = request_of setting asked

  identity_tells : IsTrue (identity_allows setting.caller setting.policies request) ↔ (¬ (IdentityDenies setting request) × IdentityAllows setting request)
  identity_tells =
      identity_by (some_deny setting.policies request) (is_root setting.caller) (some_allow setting.policies request)
      (denies_of request setting.policies kinds) (denies_from request setting.policies kinds) (allows_of request setting.policies kinds) (allows_from request setting.policies kinds)

  policies_tell : (policy : Option Policy) (granted : Bool) → IsKeyPolicy policy
      → IsTrue (settled (standing setting.caller setting.policies policy request) granted) ↔ MayByPolicies setting policy granted request
  policies_tell None granted kind = own_by (identity_allows setting.caller setting.policies request) granted identity_tells
  policies_tell (Some policy) granted kind =
      key_by policy.statements request (verdict_of policy request)
      (subst (λ (k : PolicyKind). IsVerdictOf k policy.statements request (verdict_of policy request)) kind (verdict_of_lem policy request))
      (some_deny setting.policies request) (identity_allows setting.caller setting.policies request) granted
      (denies_of request setting.policies kinds) (denies_from request setting.policies kinds) identity_tells

  allowed_where : (policy : Option Policy) (granted : Bool) → IsKeyPolicy policy → IsTrue (is_allowed setting policy asked granted) ↔ May setting policy granted request
  unfolding standing_of
  allowed_where policy granted kind =
      under_by (ceiling_of setting.ceiling request) (standing setting.caller setting.policies policy request) granted (ceiling_of_lem setting.ceiling request)
      (policies_tell policy granted kind)

pub allowed_by : AllowedByStatements
allowed_by setting policy asked granted kind kinds = allowed_where setting asked kinds policy granted kind

-- ---- an account without a ceiling

pub stands_alone : StandsByPoliciesAlone
unfolding standing_of
stands_alone setting policy asked none =
    ap (λ (v : CeilingVerdict). bounded v (standing setting.caller setting.policies policy (request_of setting asked))) (none_stops setting.ceiling (request_of setting asked) none)

pub may_alone : (setting : Setting) (policy : Option Policy) (granted : Bool) (request : RequestFacts) → setting.ceiling ≡ [] → May setting policy granted request ↔ MayByPolicies setting policy granted request
may_alone setting policy granted request none = (λ h. h.1, λ h. (inl none, h))

pub allowed_alone : AllowedByPoliciesAlone
allowed_alone setting policy asked granted none kind kinds =
    let may = allowed_by setting policy asked granted kind kinds in
    let alone = may_alone setting policy granted (request_of setting asked) none in
    (λ t. alone.0 (may.0 t), λ m. may.1 (alone.1 m))
