-- The rows of pairs, each a place and a row, and what is found among them.
use Rattle.std.proofs.Common.{◌≡◌, ℕ, Bool, true, false, cond, List, [], ◌∷◌, filter, find, Option, Some, None, refl, ap, ◌∙◌, subst}
use Rattle.std.specs.Prelude.{◌&&◌}
use Rattle.std.proofs.lemmas.Option.{none-some, same_Some}
use Rattle.std.specs.List.{AllByRecursion}
use Rattle.std.specs.Option.{option_map}
use Rattle.alias_map.specs.declared.rows.AliasRow.{AliasRow}
use Rattle.alias_map.specs.Kept.{rows_in}

-- the first of a list
abbrev pub first_in : {X : Type 0} → List X → Option X
first_in [] = None
first_in (x ∷ xs) = Some x

module _ {X : Type 0} where
  -- two tests that agree on each item of a list
  abbrev pub Agree : (X → Bool) → (X → Bool) → List X → Type 0
  Agree p q xs = AllByRecursion (λ x. p x ≡ q x) xs

  pub filter_alike : (p q : X → Bool) (xs : List X) → Agree p q xs → filter p xs ≡ filter q xs
  filter_alike p q [] h = refl
  filter_alike p q (x ∷ xs) h = ap (λ b. cond b (x ∷ filter p xs) (filter p xs)) h.0 ∙ ap (λ l. cond (q x) (x ∷ l) l) (filter_alike p q xs h.1)

  pub find_alike : (p q : X → Bool) (xs : List X) → Agree p q xs → find p xs ≡ find q xs
  find_alike p q [] h = refl
  find_alike p q (x ∷ xs) h = ap (λ b. cond b (Some x) (find p xs)) h.0 ∙ ap (λ o. cond (q x) (Some x) o) (find_alike p q xs h.1)

  -- what all have, the one that is found has
  pub found_has : (P : X → Type 0) (test : X → Bool) (xs : List X) (x : X) → find test xs ≡ Some x → AllByRecursion P xs → P x
  found_has P test [] x is all = absurd (none-some x is)
  found_has P test (first ∷ xs) x is all = by_test (test first) (λ later. found_has P test xs x later all.1) is
    where
      by_test : (b : Bool) → (find test xs ≡ Some x → P x) → cond b (Some first) (find test xs) ≡ Some x → P x
      by_test true later is = subst P (same_Some first x is) all.0
      by_test false later is = later is

  -- the first that passes
  pub first_filter : (p : X → Bool) (xs : List X) → first_in (filter p xs) ≡ find p xs
  first_filter p [] = refl
  first_filter p (x ∷ xs) = by_test (p x) (first_filter p xs)
    where
      by_test : (b : Bool) → first_in (filter p xs) ≡ find p xs → first_in (cond b (x ∷ filter p xs) (filter p xs)) ≡ cond b (Some x) (find p xs)
      by_test true h = refl
      by_test false h = h

  -- those that pass two tests, one after the other
  pub filter_filter : (p q : X → Bool) (xs : List X) → filter p (filter q xs) ≡ filter (λ x. q x && p x) xs
  filter_filter p q [] = refl
  filter_filter p q (x ∷ xs) = by_test (q x) (filter_filter p q xs)
    where
      by_test : (b : Bool) → filter p (filter q xs) ≡ filter (λ x. q x && p x) xs → filter p (cond b (x ∷ filter q xs) (filter q xs)) ≡ cond (b && p x) (x ∷ filter (λ x. q x && p x) xs) (filter (λ x. q x && p x) xs)
      by_test true h = ap (λ l. cond (p x) (x ∷ l) l) h
      by_test false h = h

-- what all rows have
module _ (P : AliasRow → Type 0) where
  pub every_of_rows : (pairs : List (ℕ × AliasRow)) → AllByRecursion P (rows_in pairs) → AllByRecursion (λ pair. P pair.1) pairs
  every_of_rows [] h = tt
  every_of_rows (pair ∷ pairs) h = (h.0, every_of_rows pairs h.1)

  pub every_in_rows : (pairs : List (ℕ × AliasRow)) → AllByRecursion (λ pair. P pair.1) pairs → AllByRecursion P (rows_in pairs)
  every_in_rows [] h = tt
  every_in_rows (pair ∷ pairs) h = (h.0, every_in_rows pairs h.1)

module _ (test : AliasRow → Bool) where
  -- a test of rows
  pub rows_in-filter : (pairs : List (ℕ × AliasRow)) → rows_in (filter (λ pair. test pair.1) pairs) ≡ filter test (rows_in pairs)
  rows_in-filter [] = refl
  rows_in-filter (pair ∷ pairs) = by_test (test pair.1) (rows_in-filter pairs)
    where
      by_test : (b : Bool) → rows_in (filter (λ pair. test pair.1) pairs) ≡ filter test (rows_in pairs) → rows_in (cond b (pair ∷ filter (λ pair. test pair.1) pairs) (filter (λ pair. test pair.1) pairs)) ≡ cond b (pair.1 ∷ filter test (rows_in pairs)) (filter test (rows_in pairs))
      by_test true h = ap (λ l. pair.1 ∷ l) h
      by_test false h = h

  pub rows_in-find : (pairs : List (ℕ × AliasRow)) → option_map (λ (pair : ℕ × AliasRow). pair.1) (find (λ pair. test pair.1) pairs) ≡ find test (rows_in pairs)
  rows_in-find [] = refl
  rows_in-find (pair ∷ pairs) = by_test (test pair.1) (rows_in-find pairs)
    where
      by_test : (b : Bool) → option_map (λ (pair : ℕ × AliasRow). pair.1) (find (λ pair. test pair.1) pairs) ≡ find test (rows_in pairs) → option_map (λ (pair : ℕ × AliasRow). pair.1) (cond b (Some pair) (find (λ pair. test pair.1) pairs)) ≡ cond b (Some pair.1) (find test (rows_in pairs))
      by_test true h = refl
      by_test false h = h

  -- the row of the first pair that passes, by a test of pairs that agrees with a test of rows
  pub first_row : (passes : ℕ × AliasRow → Bool) (pairs : List (ℕ × AliasRow)) → Agree passes (λ pair. test pair.1) pairs → option_map (λ (pair : ℕ × AliasRow). pair.1) (first_in (filter passes pairs)) ≡ find test (rows_in pairs)
  first_row passes pairs agree =
      ap (option_map (λ (pair : ℕ × AliasRow). pair.1)) (first_filter passes pairs ∙ find_alike passes (λ pair. test pair.1) pairs agree)
      ∙ rows_in-find pairs

-- the row of the first pair
abbrev pub row_of_first : List (ℕ × AliasRow) → Option AliasRow
row_of_first pairs = option_map (λ (pair : ℕ × AliasRow). pair.1) (first_in pairs)
