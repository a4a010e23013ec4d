-- The step of authority passes exactly where statements allow every question.
use Rattle.std.proofs.Common.{◌≡◌, ℕ, List, [], ◌∷◌, Bool, true, false, Option, Some, None, is_some, refl, sym, ap, ◌∙◌, zero, suc, subst, arith, cond, inl, get_or}
use Rattle.std.specs.Prelude.{◌↔◌, IsTrue, All, Any, find}
use Rattle.std.specs.Bool.{Decides}
use Rattle.std.proofs.lemmas.List.Elements.{All-cons}
use Rattle.kms_names.specs.declared.principals.Principal.{Principal}
use Rattle.kms_names.specs.declared.operations.GrantOp.{GrantOp}
use Rattle.kms_names.specs.declared.operations.GrantOp.TheVariants as op
use Rattle.kms_json.specs.declared.refusals.Refusal.{Refusal}
use Rattle.kms_json.specs.declared.refusals.Refusal.TheVariants as refusal
use Rattle.authority.specs.Setting.{Particulars, GrantSaid}
use Rattle.authority.specs.Allowed.{AreIdentityPolicies}
use Rattle.grant_table.specs.declared.rows.GrantRow.{GrantRow}
use Rattle.grant_table.specs.Grants.{is_parent, is_child_of, IsChildOf, permits, Permits}
use Rattle.grant_table.proofs.PermitFacts.{permits_decides}
use Rattle.grant_table.proofs.GrantFacts.{subset_decides}
use Rattle.grant_table.specs.Constraints.{is_as_strict, IsAsStrict}
use Rattle.grant_table.specs.declared.constraints.Constraint.{Constraint}
use Rattle.grant_table.specs.declared.constraints.Constraint.TheVariants.{Free, Equals, Subset}
use Rattle.enc_context.proofs.PairFacts.{includes_decides, same_pairs_decides}
use Rattle.std.proofs.lemmas.Bool.Decides.{Decides-and}
use Rattle.account_steps.specs.View.{View}
use Rattle.account_steps.specs.Steps.{or_else}
use Rattle.account_steps.specs.Authority.{Question, on_key, on_other, retiring, setting_of, resource_of, action_of, granted_op, grant_op_of, denied_one, denied, MayAsk, IsParent, GrantedOp}
use Rattle.account_laws.specs.Laws.{PassesWhereStatementsAllow, MayByStatements, PassesWithoutACeiling, IsFirstDenied, NamesTheFirstDenied, GrantsPermit}
use Rattle.account_steps.proofs.Authorizing.{one_passes, one_names}

-- ---- grants

found_is : {X : Type 0} (test : X → Bool) (P : X → Type 0) → ((x : X) → Decides (test x) (P x)) → (xs : List X) → IsTrue (is_some (find test xs)) ↔ Any P xs
found_is test P decides [] = (λ t. absurd (cc), λ any. absurd (omega (arith, any.2)))
found_is {X} test P decides (x ∷ xs) = by_test (test x) (decides x) (found_is test P decides xs)
  where
    later_one : Any P xs → Any P (x ∷ xs)
    later_one (k, y, lt, is, p) = (suc k, y, omega (arith, lt), is, p)

    not_first : (P x → ⊥) → Any P (x ∷ xs) → Any P xs
    not_first never (zero, y, lt, is, p) = absurd (never (subst P (sym is) p))
    not_first never (suc k, y, lt, is, p) = (k, y, omega (arith, lt), is, p)

    by_test : (b : Bool) → Decides b (P x) → IsTrue (is_some (find test xs)) ↔ Any P xs → IsTrue (is_some (cond b (Some x) (find test xs))) ↔ Any P (x ∷ xs)
    by_test true d later = (λ t. (zero, x, omega arith, refl, d.0 refl), λ any. refl)
    by_test false d later = (λ t. later_one (later.0 t), λ any. later.1 (not_first (λ p. let bad : false ≡ true = d.1 p in cc) any))

-- the tests of grants decide what they say
never : {P : Type 0} → (P → false ≡ true) → Decides false P
never none = ((λ t. absurd (cc)), none)

strict_decides : (parent child : Constraint) → Decides (is_as_strict parent child) (IsAsStrict parent child)
strict_decides Free child = (λ e. tt, λ any. refl)
strict_decides (Equals pairs) Free = never (λ bad. absurd bad)
strict_decides (Equals pairs) (Equals others) = same_pairs_decides others pairs
strict_decides (Equals pairs) (Subset others) = never (λ bad. absurd bad)
strict_decides (Subset pairs) Free = never (λ bad. absurd bad)
strict_decides (Subset pairs) (Equals others) = includes_decides others pairs
strict_decides (Subset pairs) (Subset others) = includes_decides others pairs

child_decides : (said : GrantSaid) (grant : GrantRow) → Decides (is_child_of grant said.operations said.constraint) (IsChildOf grant said.operations said.constraint)
child_decides said grant = Decides-and _ _ (subset_decides said.operations grant.operations) (strict_decides grant.constraint said.constraint)

parent_decides : (key : List ℕ) (caller : Principal) (said : GrantSaid) (grant : GrantRow) → Decides (is_parent key caller said.operations said.constraint grant) (IsParent key caller said grant)
parent_decides key caller said grant = Decides-and _ _ (permits_decides key caller op.CreateGrant [] grant) (child_decides said grant)

granted_by : (view : View) (key : List ℕ) (said : Particulars) (made : Option GrantSaid) (wanted : Option GrantOp) → IsTrue (granted_op view key said made wanted) ↔ GrantedOp view key said made wanted
granted_by view key said made None = (λ t. absurd (cc), λ bad. absurd bad)
granted_by view key said (Some grant) (Some wanted) =
    found_is (is_parent key view.caller grant.operations grant.constraint) (IsParent key view.caller grant) (parent_decides key view.caller grant) view.grants
granted_by view key said None (Some wanted) =
    found_is (permits key view.caller wanted said.context) (λ grant. Permits grant key view.caller wanted said.context) (permits_decides key view.caller wanted said.context) view.grants

pub grants_permit : GrantsPermit
grants_permit view action key said = granted_by view key said said.grant (grant_op_of action)

-- ---- all of them

both_none : (first second : Option Refusal) → or_else first second ≡ None → (first ≡ None) × (second ≡ None)
both_none None second e = (refl, e)
both_none (Some why) second e = cc

module _ (view : View) (kinds : AreIdentityPolicies (setting_of view).policies) where
  passes_of : (questions : List Question) → denied view questions ≡ None → All (MayAsk view) questions
  passes_of [] e = λ k d lt. absurd (omega (arith, lt))
  passes_of (q ∷ questions) e =
      let both = both_none (denied_one view q) (denied view questions) e in
      All-cons (MayAsk view) q questions ((one_passes view kinds q).0 both.0) (passes_of questions both.1)

  passes_from : (questions : List Question) → All (MayAsk view) questions → denied view questions ≡ None
  passes_from [] all = refl
  passes_from (q ∷ questions) all =
      ap (λ (o : Option Refusal). or_else o (denied view questions)) ((one_passes view kinds q).1 (all zero q (omega arith)))
      ∙ passes_from questions (λ k d lt. all (suc k) d (omega (arith, lt)))

  abbrev FirstOf : List Question → Refusal → Type 0
  FirstOf questions why = (q : Question) × IsFirstDenied view questions q × (why ≡ refusal.AccessDenied view.caller (action_of q) (resource_of view q))

  names_where : (o : Option Refusal) (q : Question) (questions : List Question) (why : Refusal) → denied_one view q ≡ o → (denied view questions ≡ Some why → FirstOf questions why)
      → or_else o (denied view questions) ≡ Some why → FirstOf (q ∷ questions) why
  names_where (Some first) q questions why is later e =
      let told = one_names view kinds q why (is ∙ e) in
      (q, record { before = []; behind = questions; are = refl; allowed = λ k d lt. absurd (omega (arith, lt)); denied = told.0 }, told.1)
  names_where None q questions why is later e =
      let found = later e in
      let first = found.1 in (
        found.0,
        record {
          before = q ∷ first.before;
          behind = first.behind;
          are = ap (λ (qs : List Question). q ∷ qs) first.are;
          allowed = All-cons (MayAsk view) q first.before ((one_passes view kinds q).0 is) first.allowed;
          denied = first.denied;
        },
        found.2,
      )

  names_of : (questions : List Question) (why : Refusal) → denied view questions ≡ Some why → FirstOf questions why
  names_of [] why e = cc
  names_of (q ∷ questions) why e = names_where (denied_one view q) q questions why refl (names_of questions why) e

pub passes_where_allowed : PassesWhereStatementsAllow
passes_where_allowed view questions kinds = (passes_of view kinds questions, passes_from view kinds questions)

pub names_the_first : NamesTheFirstDenied
names_the_first view questions why kinds e = names_of view kinds questions why e

-- ---- an account without a ceiling

unbounded : (view : View) → view.facts.ceiling ≡ [] → (q : Question) → MayByStatements view q ↔ MayAsk view q
unbounded view none (on_key action row said) = (λ may. (inl none, may), λ both. both.1)
unbounded view none (on_other action resource said) = (λ may. (inl none, may), λ both. both.1)
unbounded view none (retiring grant) = (λ may. may, λ may. may)

pub passes_without : PassesWithoutACeiling
passes_without view questions none kinds =
    (λ e k d lt. (unbounded view none (get_or questions k d)).1 (passes_of view kinds questions e k d lt), λ all. passes_from view kinds questions (λ k d lt. (unbounded view none (get_or questions k d)).0 (all k d lt)))
