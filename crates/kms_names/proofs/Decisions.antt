-- Facts that are decided: each holds or doesn't.
use Rattle.std.proofs.Common.{◌≡◌, ◌⊎◌, inl, inr, ⊎_elim, ℕ, zero, suc, Bool, true, false, List, [], ◌∷◌, get_or, refl, sym, subst, arith}
use Rattle.std.specs.Prelude.{◌==◌, All, Any, Contains}
use Rattle.std.specs.Bool.{Decides}
use Rattle.std.proofs.lemmas.Bool.Decides.{Decides-eqb}
use Rattle.std.proofs.lemmas.List.Elements.{All-nil, All-cons, All-head, All-tail}
use Rattle.std.proofs.lemmas.Slice.Eq.{bytes_eq-Decides}
use Rattle.std.specs.Str.{bytes_eq}

-- the fact holds, or it doesn't
abbrev pub Decided : Type 0 → Type 0
Decided P = P ⊎ (¬ P)

pub decided_by_test : {P : Type 0} (test : Bool) → Decides test P → Decided P
decided_by_test true (to, back) = inl (to refl)
decided_by_test false (to, back) = inr (λ p. let bad : false ≡ true = back p in cc)

pub decided_like : {P Q : Type 0} → (P → Q) → (Q → P) → Decided P → Decided Q
decided_like to back (inl p) = inl (to p)
decided_like to back (inr not) = inr (λ q. not (back q))

pub decided_not : {P : Type 0} → Decided P → Decided (¬ P)
decided_not (inl p) = inr (λ not. not p)
decided_not (inr not) = inl not

pub decided_both : {P Q : Type 0} → Decided P → Decided Q → Decided (P × Q)
decided_both (inl p) (inl q) = inl (p, q)
decided_both (inl p) (inr not) = inr (λ h. not h.1)
decided_both (inr not) q = inr (λ h. not h.0)

pub decided_either : {P Q : Type 0} → Decided P → Decided Q → Decided (P ⊎ Q)
decided_either (inl p) q = inl (inl p)
decided_either (inr not) (inl q) = inl (inr q)
decided_either (inr not) (inr nor) = inr (λ h. ⊎_elim not nor h)

-- ---- texts

pub same_number : (m n : ℕ) → Decided (m ≡ n)
same_number m n = decided_by_test (m == n) (Decides-eqb m n)

pub same_text : (a b : List ℕ) → Decided (a ≡ b)
same_text a b = decided_by_test (bytes_eq a b) (bytes_eq-Decides a b)

-- ---- lists

module _ {X : Type 0} (P : X → Type 0) where
  pub any_here : (x : X) (xs : List X) → P x → Any P (x ∷ xs)
  any_here x xs h = (0, x, omega arith, refl, h)

  pub any_there : (x : X) (xs : List X) → Any P xs → Any P (x ∷ xs)
  any_there x xs (k, y, lt, at, h) = (suc k, y, omega arith, at, h)

  pub any_of : (x : X) (xs : List X) → Any P (x ∷ xs) → P x ⊎ Any P xs
  any_of x xs (zero, y, lt, at, h) = inl (subst P (sym at) h)
  any_of x xs (suc k, y, lt, at, h) = inr (k, y, omega arith, at, h)

  pub decided_any : ((x : X) → Decided (P x)) → (xs : List X) → Decided (Any P xs)
  decided_any each [] = inr (λ (k, x, lt, at, h). omega arith)
  decided_any each (x ∷ xs) =
      decided_like (λ h. ⊎_elim (any_here x xs) (any_there x xs) h) (any_of x xs) (decided_either (each x) (decided_any each xs))

  pub decided_all : ((x : X) → Decided (P x)) → (xs : List X) → Decided (All P xs)
  decided_all each [] = inl (All-nil P)
  decided_all each (x ∷ xs) =
      decided_like (λ h. All-cons P x xs h.0 h.1) (λ h. (All-head P x xs h, All-tail P x xs h)) (decided_both (each x) (decided_all each xs))

pub decided_contains : {X : Type 0} → ((x y : X) → Decided (x ≡ y)) → (xs : List X) (x : X) → Decided (Contains xs x)
decided_contains same xs x = decided_like to back (decided_any (λ y. y ≡ x) (λ y. same y x) xs)
  where
    to : Any (λ y. y ≡ x) xs → Contains xs x
    to (k, y, lt, at, e) = (k, lt, subst (λ z. get_or xs k z ≡ z) e at)

    back : Contains xs x → Any (λ y. y ≡ x) xs
    back (k, lt, at) = (k, x, lt, at, refl)
