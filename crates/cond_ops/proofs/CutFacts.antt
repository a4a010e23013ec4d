-- A text is cut in one way at the first of a byte.
use Rattle.std.proofs.Common.{◌≡◌, ◌≢◌, ℕ, ◌<◌, List, [], ◌∷◌, ◌++◌, length, get_or, refl, sym, ◌∙◌, subst, Some, None, Option}
use Rattle.std.specs.Prelude.{MatchOption}
use Rattle.std.specs.List.{All}
use Rattle.std.specs.Borrow.{Bor}
use Rattle.std.proofs.lemmas.List.Elements.{All-head, All-tail, All-from_get_or}
use Rattle.cond_ops.specs.Cut.{IsCutAt}

module _ (m : ℕ) where
  one_cut : (a b r s : List ℕ) → All (λ c. c ≢ m) a → All (λ c. c ≢ m) b → a ++ m ∷ r ≡ b ++ m ∷ s → (a ≡ b) × (r ≡ s)
  one_cut [] [] r s none_a none_b e = (refl, cc)
  one_cut [] (y ∷ b) r s none_a none_b e =
      let head : y ≡ m = cc in absurd (All-head (λ c. c ≢ m) y b none_b head)
  one_cut (x ∷ a) [] r s none_a none_b e =
      let head : x ≡ m = cc in absurd (All-head (λ c. c ≢ m) x a none_a head)
  one_cut (x ∷ a) (y ∷ b) r s none_a none_b e =
      let heads : x ≡ y = cc in
      let tails : a ++ m ∷ r ≡ b ++ m ∷ s = cc in
      let rest : (a ≡ b) × (r ≡ s) = one_cut a b r s (All-tail (λ c. c ≢ m) x a none_a) (All-tail (λ c. c ≢ m) y b none_b) tails in
      (cc, rest.1)

  pub mark_stands : (a r : List ℕ) → All (λ c. c ≢ m) (a ++ m ∷ r) → ⊥
  mark_stands [] r none = All-head (λ c. c ≢ m) m r none refl
  mark_stands (x ∷ a) r none = mark_stands a r (All-tail (λ c. c ≢ m) x (a ++ m ∷ r) none)

  pub same_cut : (text a r b s : List ℕ) → IsCutAt m text a r → IsCutAt m text b s → (a ≡ b) × (r ≡ s)
  same_cut text a r b s here there = one_cut a b r s here.0 there.0 (sym here.1 ∙ there.1)

  by_places : (s : List ℕ) → ((i : ℕ) → i < length s → get_or s i 0 ≢ m) → All (λ c. c ≢ m) s
  by_places s none = All-from_get_or (λ c. c ≢ m) s 0 none

  -- what `split_once` says by places
  pub cut_of_split : (bytes : List ℕ) (r : Option (Bor (List ℕ) × Bor (List ℕ)))
      → MatchOption r ((i : ℕ) → i < length bytes → get_or bytes i 0 ≢ m) (λ x. (bytes ≡ x.0.now ++ m ∷ x.1.now) × ((i : ℕ) → i < length x.0.now → get_or x.0.now i 0 ≢ m))
      → MatchOption r ((part rest : List ℕ) → ¬ (IsCutAt m bytes part rest)) (λ parts. IsCutAt m bytes parts.0.now parts.1.now)
  cut_of_split bytes None none = λ part rest cut.
      mark_stands part rest (subst (All (λ c. c ≢ m)) cut.1 (by_places bytes none))
  cut_of_split bytes (Some x) parts = (by_places x.0.now parts.1, parts.0)
