-- The step of authority passes exactly where statements allow every question.
use Rattle.std.proofs.Common.{◌≡◌, ◌⊎◌, inl, inr, ℕ, List, [], ◌∷◌, Bool, true, false, ◌&&◌, ◌||◌, Option, Some, None, Result, Err, ◌++◌, refl, sym, ap, ◌∙◌, subst}
use Rattle.std.specs.Prelude.{◌↔◌, IsTrue, ⊤}
use Rattle.kms_names.specs.declared.actions.Action.{Action}
use Rattle.kms_names.specs.declared.principals.Principal.{Principal}
use Rattle.kms_names.specs.declared.operations.GrantOp.TheVariants as op
use Rattle.kms_names.specs.GrantOps.{contains}
use Rattle.kms_json.specs.declared.refusals.Refusal.{Refusal}
use Rattle.kms_json.specs.declared.refusals.Refusal.TheVariants as refusal
use Rattle.policy_doc.specs.declared.policies.Policy.{Policy}
use Rattle.key_policies.specs.KeyPolicy.{policy_in}
use Rattle.authority.specs.Setting.{Particulars, is_root}
use Rattle.authority.specs.declared.standings.Standing.{Standing}
use Rattle.authority.specs.Allowed.{standing_of, settled, AreIdentityPolicies}
use Rattle.authority.proofs.LawFacts.{allowed_by}
use Rattle.key_policies.proofs.KindFacts.{kind_of_text}
use Rattle.grant_table.specs.declared.rows.GrantRow.{GrantRow}
use Rattle.grant_table.specs.Grants.{has_retiring, is_principal}
use Rattle.grant_table.specs.Principals.{same_principal}
use Rattle.grant_table.proofs.PermitFacts.{principal_decides}
use Rattle.key_states.specs.declared.rows.KeyRow.{KeyRow}
use Rattle.account_steps.specs.View.{View}
use Rattle.account_steps.specs.declared.stops.Stop.{Stop}
use Rattle.account_steps.specs.declared.stops.Stop.TheVariants as stop
use Rattle.account_steps.specs.Steps.{or_else, arn_of, Passes}
use Rattle.account_steps.specs.Authority.{Question, on_key, on_other, retiring, setting_of, resource_of, action_of, asked_of, granted, may_on_key, may_on_other, may_retire, may, denied_at, denied_one, denied, MayRetire, MayAsk}

-- ---- one question

module _ (caller : Principal) (op : Action) (resource : List ℕ) where
  none_where : (b : Bool) → denied_at caller op resource b ≡ None ↔ IsTrue b
  none_where true = (λ e. refl, λ t. refl)
  none_where false = (λ e. cc, λ t. cc)

  some_where : (b : Bool) (why : Refusal) → denied_at caller op resource b ≡ Some why → (b ≡ false) × (why ≡ refusal.AccessDenied caller op resource)
  some_where true why e = cc
  some_where false why e = (refl, cc)

-- whoever may retire a grant
or_is : (a b : Bool) → IsTrue (a || b) ↔ (IsTrue a ⊎ IsTrue b)
or_is true b = (λ t. inl refl, λ either. refl)
or_is false b = (λ t. inr t, λ either. elim either [ inl t ↦ absurd (cc) | inr t ↦ t ])

and_is : (a b : Bool) → IsTrue (a && b) ↔ (IsTrue a × IsTrue b)
and_is true b = (λ t. (refl, t), λ both. both.1)
and_is false b = (λ t. absurd (cc), λ both. absurd (let bad : false ≡ true = both.0 in cc))

module _ (caller : Principal) where
  retires_for : (named : Option Principal) (grant : GrantRow) → grant.retiring ≡ named → IsTrue (has_retiring caller grant) ↔ (grant.retiring ≡ Some caller)
  retires_for None grant is = (λ t. absurd (let bad : has_retiring caller grant ≡ false = ap (λ (o : Option Principal). is_principal caller o) is in cc), λ e. absurd (let bad : ◌≡◌ {A = Option Principal} None (Some caller) = sym is ∙ e in cc))
  retires_for (Some named) grant is =
      let decides = principal_decides named caller in
      let same : has_retiring caller grant ≡ same_principal named caller = ap (λ (o : Option Principal). is_principal caller o) is in
      (λ t. is ∙ ap (λ (p : Principal). Some p) (decides.0 (sym same ∙ t)), λ e. same ∙ decides.1 (let both : Some named ≡ Some caller = sym is ∙ e in cc))

  pub retires : (grant : GrantRow) → IsTrue (may_retire caller grant) ↔ MayRetire caller grant
  retires grant =
      let r = is_root caller in
      let h = has_retiring caller grant in
      let s = same_principal grant.grantee caller in
      let c = contains grant.operations op.RetireGrant in
      let named = retires_for grant.retiring grant refl in
      let grantee = principal_decides grant.grantee caller in (
        λ t. elim ((or_is r (h || (s && c))).0 t) [ inl root ↦ inl root | inr rest ↦ elim ((or_is h (s && c)).0 rest) [ inl is ↦ inr (inl (named.0 is)) | inr both ↦ inr (inr (let parts = (and_is s c).0 both in (grantee.0 parts.0, parts.1))) ] ],
        λ m. elim m [
          | inl root ↦ (or_is r (h || (s && c))).1 (inl root)
          | inr rest ↦ elim rest [
            | inl is ↦ (or_is r (h || (s && c))).1 (inr ((or_is h (s && c)).1 (inl (named.1 is))))
            | inr both ↦ (or_is r (h || (s && c))).1 (inr ((or_is h (s && c)).1 (inr ((and_is s c).1 (grantee.1 both.0, both.1)))))
          ]
        ],
      )

module _ (view : View) (kinds : AreIdentityPolicies (setting_of view).policies) where
  tells_on_key : (action : Action) (row : KeyRow) (said : Particulars) → IsTrue (may_on_key view (policy_in row.policy) action row.key said) ↔ MayAsk view (on_key action row said)
  unfolding may_on_key
  tells_on_key action row said =
      allowed_by (setting_of view) (Some (policy_in row.policy)) (asked_of action (arn_of view.facts row.key) said) (granted view action row.key said) (kind_of_text row.policy) kinds

  tells_on_other : (action : Action) (resource : List ℕ) (said : Particulars) → IsTrue (may_on_other view action resource said) ↔ MayAsk view (on_other action resource said)
  unfolding may_on_other
  tells_on_other action resource said = allowed_by (setting_of view) None (asked_of action resource said) false tt kinds

  tells : (q : Question) → IsTrue (may view q) ↔ MayAsk view q
  tells (on_key action row said) = tells_on_key action row said
  tells (on_other action resource said) = tells_on_other action resource said
  tells (retiring grant) = retires view.caller grant

  pub one_passes : (q : Question) → denied_one view q ≡ None ↔ MayAsk view q
  one_passes q =
      (λ e. (tells q).0 ((none_where view.caller (action_of q) (resource_of view q) (may view q)).0 e), λ m. (none_where view.caller (action_of q) (resource_of view q) (may view q)).1 ((tells q).1 m))

  pub one_names : (q : Question) (why : Refusal) → denied_one view q ≡ Some why → ¬ (MayAsk view q) × (why ≡ refusal.AccessDenied view.caller (action_of q) (resource_of view q))
  one_names q why e =
      let told = some_where view.caller (action_of q) (resource_of view q) (may view q) why e in
      (λ m. let bad : false ≡ true = sym told.0 ∙ (tells q).1 m in cc, told.1)

-- ---- by what the code asks

pub by_standing : (view : View) (policy : Policy) (action : Action) (key arn : List ℕ) (said : Particulars) (standing : Standing) → arn ≡ arn_of view.facts key
    → standing ≡ standing_of (setting_of view) (Some policy) (asked_of action arn said) → settled standing (granted view action key said) ≡ may_on_key view policy action key said
unfolding may_on_key
by_standing view policy action key arn said standing there is =
    ap (λ (s : Standing). settled s (granted view action key said)) is
    ∙ ap (λ (r : List ℕ). settled (standing_of (setting_of view) (Some policy) (asked_of action r said)) (granted view action key said)) there

pub by_own_standing : (view : View) (action : Action) (resource : List ℕ) (said : Particulars) (standing : Standing) → standing ≡ standing_of (setting_of view) None (asked_of action resource said)
    → settled standing false ≡ may_on_other view action resource said
unfolding may_on_other
by_own_standing view action resource said standing is = ap (λ (s : Standing). settled s false) is

pub as_asked : (view : View) (q : Question) (action : Action) (resource : List ℕ) (allowed : Bool) → action ≡ action_of q → resource ≡ resource_of view q → allowed ≡ may view q
    → denied_at view.caller action resource allowed ≡ denied_one view q
as_asked view q action resource allowed named there is =
    ap (denied_at view.caller action resource) is ∙ ap (λ (r : List ℕ). denied_at view.caller action r (may view q)) there ∙ ap (λ (a : Action). denied_at view.caller a (resource_of view q) (may view q)) named

or_none : (o : Option Refusal) → or_else o None ≡ o
or_none None = refl
or_none (Some why) = refl

pub passes_one : (view : View) (q asked : Question) (r : Result ⊤ Stop) → q ≡ asked → Passes (denied_one view q) r → Passes (denied view (asked ∷ [])) r
passes_one view q asked r same passes =
    subst (λ (x : Question). Passes (denied view (x ∷ [])) r) same (subst (λ (o : Option Refusal). Passes o r) (sym (or_none (denied_one view q))) passes)

or_assoc : (first second third : Option Refusal) → or_else (or_else first second) third ≡ or_else first (or_else second third)
or_assoc None second third = refl
or_assoc (Some why) second third = refl

pub denied_both : (view : View) (questions more : List Question) → denied view (questions ++ more) ≡ or_else (denied view questions) (denied view more)
denied_both view [] more = refl
denied_both view (q ∷ questions) more = ap (or_else (denied_one view q)) (denied_both view questions more) ∙ sym (or_assoc (denied_one view q) (denied view questions) (denied view more))

pub stops_second : (first second third : Option Refusal) (s : Stop) → first ≡ None → Passes second (Err s) → Passes (or_else first (or_else second third)) (Err s)
stops_second first second third (stop.Refused why) none is = ap (λ (o : Option Refusal). or_else o (or_else second third)) none ∙ ap (λ (o : Option Refusal). or_else o third) is
stops_second first second third stop.NoMemory none is = tt
