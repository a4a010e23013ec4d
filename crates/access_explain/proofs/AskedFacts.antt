-- What the findings of an account's questions say of the step of authority.
use Rattle.std.proofs.Common.{◌≡◌, ◌⊎◌, inl, inr, ⊎_elim, ℕ, zero, suc, ◌<◌, Bool, true, false, ◌&&◌, cond, List, [], ◌∷◌, length, get_or, map, Option, None, Some, refl, sym, ap, ◌∙◌, subst, arith}
use Rattle.std.specs.Prelude.{◌↔◌, IsTrue, All, AllPairs, Any, Contains, find, filter}
use Rattle.std.proofs.lemmas.List.Elements.{All-nil, All-cons, All-head, All-tail}
use Rattle.std.proofs.lemmas.Bool.{cases_lt}
use Rattle.std.proofs.lemmas.List.{get_or_default}
use Rattle.std.proofs.lemmas.Slice.Eq.{bytes_eq-Decides}
use Rattle.kms_names.proofs.Decisions.{any_here, any_there, any_of}
use Rattle.kms_names.specs.declared.actions.Action.{Action}
use Rattle.kms_names.specs.declared.operations.GrantOp.{GrantOp}
use Rattle.kms_names.specs.declared.principals.Principal.{Principal}
use Rattle.enc_context.specs.declared.pairs.Pair.{Pair}
use Rattle.policy_doc.specs.declared.policies.Statement.{Statement}
use Rattle.policy_eval.specs.Ceiling.{Under, SomeDocumentDenies}
use Rattle.policy_eval.specs.Verdict.{SomeDenies, SomeAllowsCaller, SomeAllowsAccount}
use Rattle.authority.specs.Setting.{Particulars, GrantSaid, callers_policies}
use Rattle.authority.specs.Facts.{request_of}
use Rattle.grant_table.specs.Grants.{is_of_key, has_id, grant_with, Permits}
use Rattle.grant_table.specs.declared.rows.GrantRow.{GrantRow}
use Rattle.key_states.specs.declared.rows.KeyRow.{KeyRow}
use Rattle.account_rows.specs.History.{key_with, place_in_grant}
use Rattle.account_steps.specs.declared.questions.OfGrants.{OfGrants}
use Rattle.account_steps.specs.declared.questions.OfGrants.TheVariants as of
use Rattle.account_steps.specs.declared.questions.Question.{Question as Posed}
use Rattle.account_steps.specs.Authority.{Question, on_key, on_other, retiring, grant_op_of, granted, of_grants, posed, IsParent, GrantedOp, MayRetire, MayAsk}
use Rattle.account_steps.specs.View.{View}
use Rattle.account_laws.specs.Laws.{GrantsPermit}
use Rattle.access_explain.specs.declared.findings.Finding.{Finding}
use Rattle.access_explain.specs.declared.marks.Mark.{Mark}
use Rattle.access_explain.specs.declared.marks.Mark.TheVariants as mark
use Rattle.access_explain.specs.declared.subjects.Subject.TheVariants as about
use Rattle.access_explain.specs.declared.subjects.Subject.{Subject}
use Rattle.access_explain.specs.Certificates.{IfAllowed, AreFindings, none_denies}
use Rattle.access_explain.specs.Findings.{Basis, subject_by, policy_statements, AreGrantMarks, IsRetirable, IsFindingOn, IsFinding}
use Rattle.access_explain.specs.Grounds.{allows}
use Rattle.account_laws.specs.Laws.{IsHeld}
use Rattle.access_explain.specs.Marks.{IsGrantMark}
use Rattle.access_explain.specs.Runs.{OneByOne}
use Rattle.access_explain.proofs.MarkFacts.{one_grant_mark}
use Rattle.access_explain.proofs.MayFacts.{OwnAllow, on_key as key_told, on_other as other_told, on_retiring as retiring_told}

also : {A B C : Type 0} → A ↔ B → B ↔ C → A ↔ C
also ab bc = (λ a. bc.0 (ab.0 a), λ c. ab.1 (bc.1 c))

-- ---- those of a list that pass a test

module _ {X : Type 0} (test : X → Bool) (P : X → Type 0) where
  abbrev Both : X → Type 0
  Both x = (test x ≡ true) × P x

  pub any_kept : (xs : List X) → Any P (filter test xs) ↔ Any Both xs
  any_kept [] = (λ any. absurd (omega (arith, any.2)), λ any. absurd (omega (arith, any.2)))
  any_kept (x ∷ xs) = by_test (test x) refl (any_kept xs)
    where
      by_test : (b : Bool) → test x ≡ b → Any P (filter test xs) ↔ Any Both xs → Any P (cond b (x ∷ filter test xs) (filter test xs)) ↔ Any Both (x ∷ xs)
      by_test true is later = (
        λ any. ⊎_elim (λ p. any_here Both x xs (is, p)) (λ there. any_there Both x xs (later.0 there)) (any_of P x (filter test xs) any),
        λ any. ⊎_elim (λ both. any_here P x (filter test xs) both.1) (λ there. any_there P x (filter test xs) (later.1 there)) (any_of Both x xs any),
      )
      by_test false is later = (
        λ any. any_there Both x xs (later.0 any),
        λ any. ⊎_elim (λ both. absurd (let bad : false ≡ true = sym is ∙ both.0 in cc)) (λ there. later.1 there) (any_of Both x xs any),
      )

-- ---- grants

module _ (caller : Principal) (wanted : GrantOp) (asked : OfGrants) where
  abbrev Hits : GrantRow → Type 0
  Hits row = IsGrantMark caller wanted asked row mark.Hit

  hit_told : (rows : List GrantRow) (ms : List Mark) → OneByOne (IsGrantMark caller wanted asked) rows ms → Any Hits rows ↔ Contains ms mark.Hit
  hit_told [] [] all = (λ any. absurd (omega (arith, any.2)), λ has. absurd (omega (arith, has.1)))
  hit_told [] (m ∷ ms) all = absurd all
  hit_told (row ∷ rows) [] all = absurd all
  hit_told (row ∷ rows) (m ∷ ms) all =
      let later = hit_told rows ms all.1 in (
        λ any. ⊎_elim (λ hit. here (one_grant_mark caller wanted asked row m mark.Hit all.0 hit)) (λ there. behind (later.0 there)) (any_of Hits row rows any),
        λ has. ⊎_elim (λ e. any_here Hits row rows (subst (IsGrantMark caller wanted asked row) e all.0)) (λ there. any_there Hits row rows (later.1 there)) (either has),
      )
    where
      here : m ≡ mark.Hit → Contains (m ∷ ms) mark.Hit
      here e = (0, omega arith, e)

      behind : Contains ms mark.Hit → Contains (m ∷ ms) mark.Hit
      behind (k, lt, at) = (suc k, omega (arith, lt), at)

      either : Contains (m ∷ ms) mark.Hit → (m ≡ mark.Hit) ⊎ Contains ms mark.Hit
      either (zero, lt, at) = inl at
      either (suc k, lt, at) = inr (k, omega (arith, lt), at)

of_key_is : (key : List ℕ) (row : GrantRow) → (is_of_key key row ≡ true) ↔ (row.key ≡ key)
of_key_is key row = bytes_eq-Decides row.key key

any_alike : {X : Type 0} (P Q : X → Type 0) → ((x : X) → P x ↔ Q x) → (xs : List X) → Any P xs ↔ Any Q xs
any_alike P Q same xs = (λ (k, x, lt, at, p). (k, x, lt, at, (same x).0 p), λ (k, x, lt, at, q). (k, x, lt, at, (same x).1 q))

module _ (view : View) (key : List ℕ) (said : Particulars) where
  granted_told : (made : Option GrantSaid) (wanted : Option GrantOp) (ms : List Mark) → AreGrantMarks view.caller wanted (of_grants wanted made said.context) (filter (is_of_key key) view.grants) ms
      → GrantedOp view key said made wanted ↔ Contains ms mark.Hit
  granted_told made None ms is = (λ bad. absurd bad, λ has. absurd (let none : length ms ≡ 0 = ap length is in omega (arith, none, has.1)))
  granted_told None (Some wanted) ms is =
      also
      (also
      (any_alike (λ row. Permits row key view.caller wanted said.context) (λ row. (is_of_key key row ≡ true) × Hits view.caller wanted (of.Permit said.context) row)
      (λ row. (λ h. ((of_key_is key row).1 h.0, (h.1, h.2, h.3)), λ h. ((of_key_is key row).0 h.0, h.1.0, h.1.1, h.1.2))) view.grants)
      (let kept = any_kept (is_of_key key) (Hits view.caller wanted (of.Permit said.context)) view.grants in (kept.1, kept.0)))
      (hit_told view.caller wanted (of.Permit said.context) (filter (is_of_key key) view.grants) ms is)
  granted_told (Some grant) (Some wanted) ms is =
      also
      (also
      (any_alike (IsParent key view.caller grant) (λ row. (is_of_key key row ≡ true) × Hits view.caller wanted (of.Child grant.operations grant.constraint) row)
      (λ row. (λ h. ((of_key_is key row).1 h.0.0, (h.0.1, h.0.2, h.1)), λ h. (((of_key_is key row).0 h.0, h.1.0, h.1.1, λ e. absurd (cc)), h.1.2))) view.grants)
      (let kept = any_kept (is_of_key key) (Hits view.caller wanted (of.Child grant.operations grant.constraint)) view.grants in (kept.1, kept.0)))
      (hit_told view.caller wanted (of.Child grant.operations grant.constraint) (filter (is_of_key key) view.grants) ms is)

-- what a question about a key is about, whatever is asked of grants
key_subject : (key : List ℕ) (wanted : Option GrantOp) (made : Option GrantSaid) (context : List Pair) → subject_by (Some key) (of_grants wanted made context) ≡ about.Key key
key_subject key None made context = refl
key_subject key (Some wanted) None context = refl
key_subject key (Some wanted) (Some grant) context = refl

-- ---- one grant of an id

module _ (rows : List GrantRow) (rise : AllPairs (λ (p q : GrantRow). p.born < q.born) rows) (named : All (λ (row : GrantRow). place_in_grant row.grant ≡ row.born) rows) where
  at_born : (k : ℕ) (row : GrantRow) → k < length rows → get_or rows k row ≡ row → place_in_grant row.grant ≡ row.born
  at_born k row lt at = subst (λ (r : GrantRow). place_in_grant r.grant ≡ r.born) at (named k row lt)

  not_less : (i j : ℕ) (p q : GrantRow) → i < j → j < length rows → get_or rows i p ≡ p → get_or rows j q ≡ q → p.born ≡ q.born → ⊥
  not_less i j p q less within at_p at_q same =
      let before : (get_or rows i p).born < (get_or rows j p).born = rise i j p less within in
      let first : (get_or rows i p).born ≡ p.born = ap (λ (r : GrantRow). r.born) at_p in
      let second : (get_or rows j p).born ≡ q.born = ap (λ (r : GrantRow). r.born) (get_or_default rows j p q within ∙ at_q) in
      absurd (omega (arith, before, first, second, same))

  pub same_grant : (i j : ℕ) (p q : GrantRow) → i < length rows → j < length rows → get_or rows i p ≡ p → get_or rows j q ≡ q → p.grant ≡ q.grant → p ≡ q
  same_grant i j p q in_i in_j at_p at_q same = elim (cases_lt i j) [
    | inl less ↦ absurd (not_less i j p q less in_j at_p at_q born)
    | inr other ↦ elim (cases_lt j i) [
      | inl less ↦ absurd (not_less j i q p less in_i at_q at_p (sym born))
      | inr also ↦ let e : i ≡ j = omega (arith, other, also) in sym at_p ∙ get_or_default rows i p q in_i ∙ ap (λ k. get_or rows k q) e ∙ at_q
    ]
  ]
    where
      born : p.born ≡ q.born
      born = sym (at_born i p in_i at_p) ∙ ap place_in_grant same ∙ at_born j q in_j at_q

  found_at : (xs : List GrantRow) (test : GrantRow → Bool) (x : GrantRow) → find test xs ≡ Some x → Any (λ y. y ≡ x) xs
  found_at [] test x e = cc
  found_at (y ∷ xs) test x e = by_test (test y) e (found_at xs test x)
    where
      by_test : (b : Bool) → cond b (Some y) (find test xs) ≡ Some x → (find test xs ≡ Some x → Any (λ z. z ≡ x) xs) → Any (λ z. z ≡ x) (y ∷ xs)
      by_test true is later = any_here (λ z. z ≡ x) y xs (let same : y ≡ x = cc in same)
      by_test false is later = any_there (λ z. z ≡ x) y xs (later is)

  pub retiring_is : (caller : Principal) (grant : GrantRow) → grant_with rows grant.grant ≡ Some grant → Any (IsRetirable caller grant.grant) (filter (is_of_key grant.key) rows) ↔ MayRetire caller grant
  retiring_is caller grant held =
      let kept = any_kept (is_of_key grant.key) (IsRetirable caller grant.grant) rows in
      let there = found_at rows (has_id grant.grant) grant held in (
        λ any. is_the_one there (kept.0 any),
        λ may. kept.1 (there.0, there.1, there.2, there.3, (subst (λ (r : GrantRow). is_of_key grant.key r ≡ true) (sym there.4) ((of_key_is grant.key grant).1 refl), (ap (λ (r : GrantRow). r.grant) there.4, subst (MayRetire caller) (sym there.4) may))),
      )
    where
      is_the_one : Any (λ y. y ≡ grant) rows → Any (λ row. (is_of_key grant.key row ≡ true) × IsRetirable caller grant.grant row) rows → MayRetire caller grant
      is_the_one (i, p, in_i, at_p, is) (j, q, in_j, at_q, both) = subst (MayRetire caller) (same_grant j i q p in_j in_i at_q at_p (both.1.0 ∙ sym (ap (λ (r : GrantRow). r.grant) is)) ∙ is) both.1.1

-- ---- one question

module _ (permits : GrantsPermit) (view : View) where
  abbrev pub basis : Basis
  basis = record { identities = view.facts.identities; ceiling = view.facts.ceiling; keys = view.keys; grants = view.grants }

  module _ (q : Posed) (f : Finding) (G : Type 0) where
    -- what allows it, with these statements of the policy of the key
    abbrev MayBy : List Statement → Type 0
    MayBy ss =
        Under view.facts.ceiling q.facts
        × (¬ (SomeDenies ss q.facts) × ¬ (SomeDocumentDenies (callers_policies view.facts.identities q.facts.caller) q.facts)
        × (SomeAllowsCaller ss q.facts ⊎ (SomeAllowsAccount ss q.facts × OwnAllow basis q f) ⊎ G))

  on_key_told : (act : Action) (row : KeyRow) (said : Particulars) → key_with view.keys row.key ≡ Some row → (f : Finding) → IsFinding basis (posed view (on_key act row said)) f
      → IsTrue (allows f.ground) ↔ MayAsk view (on_key act row said)
  unfolding request_of
  on_key_told act row said held f is =
      let q : Posed = posed view (on_key act row said) in
      let about_key = subst (λ (s : Subject). IsFindingOn basis q s f) (key_subject row.key (grant_op_of act) said.grant said.context) is in
      let grants = also (permits view act row.key said) (granted_told view row.key said said.grant (grant_op_of act) f.grant_marks about_key.grant) in
      let told = key_told basis q f row.key {G = IsTrue (granted view act row.key said)} grants about_key in
      subst (λ (ss : List Statement). IsTrue (allows f.ground) ↔ MayBy q f (IsTrue (granted view act row.key said)) ss) (ap policy_statements held) told

  on_other_told : (act : Action) (resource : List ℕ) (said : Particulars) (f : Finding) → IsFinding basis (posed view (on_other act resource said)) f → IsTrue (allows f.ground) ↔ MayAsk view (on_other act resource said)
  unfolding request_of
  on_other_told act resource said f is = other_told basis (posed view (on_other act resource said)) f is

  module _ (rise : AllPairs (λ (p q : GrantRow). p.born < q.born) view.grants) (named : All (λ (row : GrantRow). place_in_grant row.grant ≡ row.born) view.grants) where
    retiring_told_of : (grant : GrantRow) → grant_with view.grants grant.grant ≡ Some grant → (f : Finding) → IsFinding basis (posed view (retiring grant)) f → IsTrue (allows f.ground) ↔ MayAsk view (retiring grant)
    unfolding request_of
    retiring_told_of grant held f is = also (retiring_told basis (posed view (retiring grant)) f grant.key grant.grant is) (retiring_is view.grants rise named view.caller grant held)

    one_told : (q : Question) → IsHeld view q → (f : Finding) → IsFinding basis (posed view q) f → IsTrue (allows f.ground) ↔ MayAsk view q
    one_told (on_key act row said) held f is = on_key_told act row said held f is
    one_told (on_other act resource said) held f is = on_other_told act resource said f is
    one_told (retiring grant) held f is = retiring_told_of grant held f is

    -- ---- all of them

    pub all_told : (questions : List Question) (fs : List Finding) → All (IsHeld view) questions → AreFindings basis (map (posed view) questions) fs → IsTrue (none_denies fs) ↔ All (MayAsk view) questions
    all_told [] [] held are = (λ t. All-nil (MayAsk view), λ all. refl)
    all_told [] (f ∷ fs) held are = absurd are
    all_told (q ∷ questions) [] held are = absurd are
    all_told (q ∷ questions) (f ∷ fs) held are =
        by_test (allows f.ground) are.1 (one_told q (All-head (IsHeld view) q questions held) f are.0) (all_told questions fs (All-tail (IsHeld view) q questions held))
      where
        by_test : (b : Bool) → IfAllowed b (AreFindings basis (map (posed view) questions) fs) fs → IsTrue b ↔ MayAsk view q
            → (AreFindings basis (map (posed view) questions) fs → IsTrue (none_denies fs) ↔ All (MayAsk view) questions) → IsTrue (b && none_denies fs) ↔ All (MayAsk view) (q ∷ questions)
        by_test true rest tells later =
            let others = later rest in
            (λ t. All-cons (MayAsk view) q questions (tells.0 refl) (others.0 t), λ all. others.1 (All-tail (MayAsk view) q questions all))
        by_test false rest tells later = (λ t. absurd (cc), λ all. absurd (let bad : false ≡ true = tells.1 (All-head (MayAsk view) q questions all) in cc))
