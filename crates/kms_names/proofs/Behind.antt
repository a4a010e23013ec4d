-- The items of a list that pass a test from a place on, and rows that were made behind a place.
use Rattle.std.proofs.Common.{◌≡◌, ◌⊎◌, inl, inr, ℕ, zero, suc, ◌-◌, ◌<◌, ◌≤◌, Bool, true, false, not, ◌&&◌, cond, List, [], ◌∷◌, length, get_or, take, drop, length-drop, Option, None, Some, refl, ap, ◌∙◌, sym, subst, arith}
use Rattle.std.specs.Prelude.{nat_lt, find, filter, slice_get, AllPairs}
use Rattle.std.specs.List.Sorted.{IsPartitionedBy, IsPartitionPoint}
use Rattle.std.proofs.lemmas.Bool.Decides.{nat_tests}
use Rattle.std.proofs.lemmas.List.{take_all}
use Rattle.kms_names.specs.Place.{is_behind}

module _ {X : Type 0} (test : X → Bool) where
  pub filter_all : (xs : List X) → ((k : ℕ) (d : X) → k < length xs → test (get_or xs k d) ≡ true) → filter test xs ≡ xs
  filter_all [] pass = refl
  filter_all (x ∷ xs) pass = by_test (test x) (pass 0 x (omega arith)) (filter_all xs (λ k d lt. pass (suc k) d (omega arith)))
    where
      by_test : (b : Bool) → b ≡ true → filter test xs ≡ xs → cond b (x ∷ filter test xs) (filter test xs) ≡ x ∷ xs
      by_test true is later = ap (λ ys. x ∷ ys) later
      by_test false is later = absurd (cc)

  pub filter_behind : (xs : List X) (place : ℕ) → ((k : ℕ) (d : X) → k < length xs → k < place → test (get_or xs k d) ≡ false)
      → ((k : ℕ) (d : X) → place ≤ k → k < length xs → test (get_or xs k d) ≡ true) → drop place xs ≡ filter test xs
  filter_behind [] zero fail pass = refl
  filter_behind [] (suc place) fail pass = refl
  filter_behind (x ∷ xs) zero fail pass = sym (filter_all (x ∷ xs) (λ k d lt. pass k d (omega arith) lt))
  filter_behind (x ∷ xs) (suc place) fail pass =
      by_test (test x) (fail 0 x (omega arith) (omega arith))
      (filter_behind xs place (λ k d lt before. fail (suc k) d (omega arith) (omega arith)) (λ k d behind lt. pass (suc k) d (omega arith) (omega arith)))
    where
      by_test : (b : Bool) → b ≡ false → drop place xs ≡ filter test xs → drop place xs ≡ cond b (x ∷ filter test xs) (filter test xs)
      by_test true is later = absurd (cc)
      by_test false is later = later

  -- the first that passes this test and another
  pub find_in_filter : (other : X → Bool) (xs : List X) → find other (filter test xs) ≡ find (λ x. other x && test x) xs
  find_in_filter other [] = refl
  find_in_filter other (x ∷ xs) = by_test (test x) (find_in_filter other xs)
    where
      by_other : (o : Bool) → find other (filter test xs) ≡ find (λ x. other x && test x) xs
          → cond o (Some x) (find other (filter test xs)) ≡ cond (o && true) (Some x) (find (λ x. other x && test x) xs)
      by_other true later = refl
      by_other false later = later

      by_neither : (o : Bool) → find other (filter test xs) ≡ find (λ x. other x && test x) xs
          → find other (filter test xs) ≡ cond (o && false) (Some x) (find (λ x. other x && test x) xs)
      by_neither true later = later
      by_neither false later = later

      by_test : (t : Bool) → find other (filter test xs) ≡ find (λ x. other x && test x) xs
          → find other (cond t (x ∷ filter test xs) (filter test xs)) ≡ cond (other x && t) (Some x) (find (λ x. other x && test x) xs)
      by_test true later = by_other (other x) later
      by_test false later = by_neither (other x) later

  pub first_in_filter : (xs : List X) → slice_get (filter test xs) 0 ≡ find test xs
  first_in_filter [] = refl
  first_in_filter (x ∷ xs) = by_test (test x) (first_in_filter xs)
    where
      by_test : (t : Bool) → slice_get (filter test xs) 0 ≡ find test xs → slice_get (cond t (x ∷ filter test xs) (filter test xs)) 0 ≡ cond t (Some x) (find test xs)
      by_test true later = refl
      by_test false later = later

no_later : (place b c : ℕ) → c ≤ b → not (nat_lt place b) ≡ true → not (nat_lt place c) ≡ true
no_later place b c le t = grind (arith, nat_tests)

fails : (b : Bool) → not b ≡ true → b ≡ false
fails true e = absurd (cc)
fails false e = refl

passes : (b : Bool) → not b ≡ false → b ≡ true
passes true e = refl
passes false e = absurd (cc)

-- rows in order of making
module _ {X : Type 0} (born : X → ℕ) where
  abbrev pub was_before : Option ℕ → X → Bool
  was_before after x = not (is_behind after (born x))

  module _ (xs : List X) (rise : AllPairs (λ p q. born p < born q) xs) where
    births_rise : (i j : ℕ) (d : X) → i ≤ j → j < length xs → born (get_or xs i d) ≤ born (get_or xs j d)
    births_rise i j d le lt = by_place (places i j le)
      where
        places : (i j : ℕ) → i ≤ j → (i < j) ⊎ (i ≡ j)
        places i j le = grind arith

        by_place : (i < j) ⊎ (i ≡ j) → born (get_or xs i d) ≤ born (get_or xs j d)
        by_place (inl before) = let rises = rise i j d before lt in omega (arith, rises)
        by_place (inr same) = subst (λ k. born (get_or xs k d) ≤ born (get_or xs j d)) (sym same) (omega arith)

    -- those that were made behind a place stand together
    pub parted : (after : Option ℕ) → IsPartitionedBy (was_before after) xs
    parted None i j d le lt t = absurd (cc)
    parted (Some place) i j d le lt t = no_later place (born (get_or xs j d)) (born (get_or xs i d)) (births_rise i j d le lt) t

    pub those_behind : (after : Option ℕ) (start : ℕ) → IsPartitionPoint (λ x. was_before after x ≡ true) (λ x. was_before after x ≡ false) xs start
        → take (length xs - start) (drop start xs) ≡ filter (λ x. is_behind after (born x)) xs
    those_behind after start (before, behind) =
        take_all (length xs - start) (drop start xs) (omega (arith, length-drop start xs))
        ∙ filter_behind (λ x. is_behind after (born x)) xs start (λ k d lt earlier. fails (is_behind after (born (get_or xs k d))) (before k d (omega arith) earlier))
        (λ k d later lt. passes (is_behind after (born (get_or xs k d))) (behind k d later lt))
