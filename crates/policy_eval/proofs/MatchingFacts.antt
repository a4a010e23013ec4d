-- An element and its Not-form.
use Rattle.std.proofs.Common.{◌≡◌, ◌≢◌, inl, inr, ℕ, Bool, true, false, not, ◌==◌, List, [], ◌∷◌, length, get_or, refl, subst, sym, ◌∙◌, ap, arith}
use Rattle.std.specs.Prelude.{◌↔◌, IsTrue, Any}
use Rattle.std.proofs.lemmas.Bool.{eqb-true}
use Rattle.std.proofs.lemmas.List.{get_or_default}
use Rattle.kms_names.proofs.Decisions.{any_here, any_of, any_there}
use Rattle.policy_eval.specs.Matching.{ElementMatches}

module _ (P : List ℕ → Type 0) (texts : List (List ℕ)) where
  -- the Not-form isn't given
  pub by_element : (nots : List (List ℕ)) → nots ≡ [] → (r : Bool) → IsTrue r ↔ Any P texts → IsTrue r ↔ ElementMatches P texts nots
  by_element nots none r some = subst (λ n. IsTrue r ↔ ElementMatches P texts n) (sym none) some

  -- it is given
  pub by_not_form : (nots : List (List ℕ)) → nots ≢ [] → (r : Bool) → IsTrue r ↔ Any P nots → IsTrue (not r) ↔ ElementMatches P texts nots
  by_not_form [] some r asked = absurd (some refl)
  by_not_form (n ∷ ns) some true (to, back) = (λ h. cc, λ all. let any = to refl in absurd (all any.0 any.1 any.2 (subst P (sym any.3) any.4)))
  by_not_form (n ∷ ns) some false (to, back) =
      (λ h k d lt p. let bad : false ≡ true = back (k, get_or (n ∷ ns) k d, lt, get_or_default (n ∷ ns) k _ _ lt, p) in cc, λ h. refl)

-- what `is_empty` says of a list's slice
pub none_given : {X : Type 0} (xs slice : List X) (b : Bool) → slice ≡ xs → b ≡ (length slice == 0) → b ≡ true → xs ≡ []
none_given [] slice b same is empty = refl
none_given (x ∷ xs) slice b same is empty =
    let none : length slice ≡ 0 = eqb-true (length slice) 0 (sym is ∙ empty) in
    let some : length slice ≡ length (x ∷ xs) = ap length same in
    absurd (omega arith)

pub some_given : {X : Type 0} (xs slice : List X) (b : Bool) → slice ≡ xs → b ≡ (length slice == 0) → b ≡ false → xs ≢ []
some_given xs slice b same is some none =
    let empty : (length slice == 0) ≡ true = ap (λ s. length s == 0) (same ∙ none) in
    let bad : true ≡ false = sym empty ∙ (sym is ∙ some) in cc

-- the first of those that are left doesn't
pub none_first : {X : Type 0} (P : X → Type 0) (all left rest : List X) (x : X) → left ≡ x ∷ rest → ¬ (P x) → Any P all ↔ Any P left → Any P all ↔ Any P rest
none_first P all left rest x is not says = (
  λ any. elim (any_of P x rest (subst (Any P) is (says.0 any))) [ inl h ↦ absurd (not h) | inr later ↦ later ],
  λ later. says.1 (subst (Any P) (sym is) (any_there P x rest later)),
)

-- the first of those that are left does
pub some_first : {X : Type 0} (P : X → Type 0) (all left rest : List X) (x : X) → left ≡ x ∷ rest → P x → Any P all ↔ Any P left → IsTrue true ↔ Any P all
some_first P all left rest x is so says = (λ _. says.1 (subst (Any P) (sym is) (any_here P x rest so)), λ _. refl)
