-- Lists that are filtered and searched.
use Rattle.std.proofs.Common.{◌≡◌, ◌≢◌, ℕ, suc, Bool, true, false, ◌&&◌, cond, List, [], ◌∷◌, ◌++◌, map, filter, find, Option, None, Some, refl, ap, ◌∙◌, sym, subst, arith}
use Rattle.std.specs.Prelude.{AllPairs}
use Rattle.std.specs.List.{AllByRecursion}
use Rattle.std.specs.Option.{option_map}
use Rattle.std.specs.Str.{bytes_eq}
use Rattle.std.proofs.lemmas.Slice.Eq.{bytes_eq-Decides}
use Rattle.std.proofs.lemmas.Option.{none-some, same_Some}
use Rattle.std.proofs.lemmas.List.Elements.{recursion_from_All}

pub bytes_apart : (a b : List ℕ) → a ≢ b → bytes_eq a b ≡ false
bytes_apart a b apart = by_test (bytes_eq a b) refl
  where
    by_test : (t : Bool) → bytes_eq a b ≡ t → bytes_eq a b ≡ false
    by_test true e = absurd (apart ((bytes_eq-Decides a b).0 e))
    by_test false e = e

-- ---- each item of a list

module _ {X : Type 0} (R : X → X → Type 0) (x : X) (xs : List X) (pairs : AllPairs R (x ∷ xs)) where
  pub first_before : AllByRecursion (R x) xs
  first_before = recursion_from_All (R x) xs (λ k d lt. pairs 0 (suc k) d (omega arith) (omega arith))

  pub pairs_behind : AllPairs R xs
  pairs_behind i j d before within = pairs (suc i) (suc j) d (omega arith) (omega arith)

pub every_weaker : {X : Type 0} (P Q : X → Type 0) → ((x : X) → P x → Q x) → (xs : List X) → AllByRecursion P xs → AllByRecursion Q xs
every_weaker P Q f [] h = tt
every_weaker P Q f (x ∷ xs) h = (f x h.0, every_weaker P Q f xs h.1)

-- ---- two tests that agree at each item of a list

module _ {X : Type 0} (test other : X → Bool) where
  pub filter_alike : (xs : List X) → AllByRecursion (λ x. test x ≡ other x) xs → filter test xs ≡ filter other xs
  filter_alike [] h = refl
  filter_alike (x ∷ xs) h = ap (λ b. cond b (x ∷ filter test xs) (filter test xs)) h.0 ∙ ap (λ l. cond (other x) (x ∷ l) l) (filter_alike xs h.1)

  pub find_alike : (xs : List X) → AllByRecursion (λ x. test x ≡ other x) xs → find test xs ≡ find other xs
  find_alike [] h = refl
  find_alike (x ∷ xs) h = ap (λ b. cond b (Some x) (find test xs)) h.0 ∙ ap (λ o. cond (other x) (Some x) o) (find_alike xs h.1)

pub agree_everywhere : {X : Type 0} (test other : X → Bool) → ((x : X) → test x ≡ other x) → (xs : List X) → AllByRecursion (λ x. test x ≡ other x) xs
agree_everywhere test other h [] = tt
agree_everywhere test other h (x ∷ xs) = (h x, agree_everywhere test other h xs)

-- ---- what a test lets through

module _ {X : Type 0} (test : X → Bool) where
  pub find_none : (xs : List X) → AllByRecursion (λ x. test x ≡ false) xs → find test xs ≡ None
  find_none [] h = refl
  find_none (x ∷ xs) h = ap (λ b. cond b (Some x) (find test xs)) h.0 ∙ find_none xs h.1

  pub none_passes : (xs : List X) → find test xs ≡ None → AllByRecursion (λ x. test x ≡ false) xs
  none_passes [] none = tt
  none_passes (x ∷ xs) none = by_test (test x) refl (none_passes xs)
    where
      by_test : (b : Bool) → test x ≡ b → (find test xs ≡ None → AllByRecursion (λ x. test x ≡ false) xs) → AllByRecursion (λ x. test x ≡ false) (x ∷ xs)
      by_test true e rest = absurd (none-some x (sym none ∙ ap (λ b. cond b (Some x) (find test xs)) e))
      by_test false e rest = (e, rest (sym (ap (λ b. cond b (Some x) (find test xs)) e) ∙ none))

  -- what is found has what all have
  pub found_has : (P : X → Type 0) (xs : List X) (x : X) → AllByRecursion P xs → find test xs ≡ Some x → P x
  found_has P [] x h found = absurd (none-some x found)
  found_has P (first ∷ xs) x h found = by_test (test first) refl (found_has P xs x h.1)
    where
      by_test : (b : Bool) → test first ≡ b → (find test xs ≡ Some x → P x) → P x
      by_test true e rest = subst P (same_Some first x (sym (ap (λ b. cond b (Some first) (find test xs)) e) ∙ found)) h.0
      by_test false e rest = rest (sym (ap (λ b. cond b (Some first) (find test xs)) e) ∙ found)

  pub found_passes : (xs : List X) (x : X) → find test xs ≡ Some x → test x ≡ true
  found_passes [] x found = absurd (none-some x found)
  found_passes (first ∷ xs) x found = by_test (test first) refl (found_passes xs x)
    where
      by_test : (b : Bool) → test first ≡ b → (find test xs ≡ Some x → test x ≡ true) → test x ≡ true
      by_test true e rest = ap test (sym (same_Some first x (sym (ap (λ b. cond b (Some first) (find test xs)) e) ∙ found))) ∙ e
      by_test false e rest = rest (sym (ap (λ b. cond b (Some first) (find test xs)) e) ∙ found)

  -- one item more
  pub find_push : (xs : List X) (x : X) → find test (xs ++ (x ∷ [])) ≡ elim (find test xs) as (λ o. Option X) [ None ↦ cond (test x) (Some x) None | Some first ↦ Some first ]
  find_push [] x = refl
  find_push (first ∷ xs) x = by_test (test first) (find_push xs x)
    where
      by_test : (b : Bool) → find test (xs ++ (x ∷ [])) ≡ elim (find test xs) as (λ o. Option X) [ None ↦ cond (test x) (Some x) None | Some first ↦ Some first ] → cond b (Some first) (find test (xs ++ (x ∷ []))) ≡ elim (cond b (Some first) (find test xs)) as (λ o. Option X) [ None ↦ cond (test x) (Some x) None | Some first ↦ Some first ]
      by_test true h = refl
      by_test false h = h

-- two tests, one after the other
pub filter_both : {X : Type 0} (test other : X → Bool) (xs : List X) → filter other (filter test xs) ≡ filter (λ x. test x && other x) xs
filter_both test other [] = refl
filter_both test other (x ∷ xs) = by_test (test x) (filter_both test other xs)
  where
    by_test : (t : Bool) → filter other (filter test xs) ≡ filter (λ x. test x && other x) xs → filter other (cond t (x ∷ filter test xs) (filter test xs)) ≡ cond (t && other x) (x ∷ filter (λ x. test x && other x) xs) (filter (λ x. test x && other x) xs)
    by_test true h = ap (λ l. cond (other x) (x ∷ l) l) h
    by_test false h = h

-- ---- a part of each item

module _ {X Y : Type 0} (f : X → Y) (test : Y → Bool) where
  pub map_filter : (xs : List X) → map f (filter (λ x. test (f x)) xs) ≡ filter test (map f xs)
  map_filter [] = refl
  map_filter (x ∷ xs) = by_test (test (f x)) (map_filter xs)
    where
      by_test : (b : Bool) → map f (filter (λ x. test (f x)) xs) ≡ filter test (map f xs) → map f (cond b (x ∷ filter (λ x. test (f x)) xs) (filter (λ x. test (f x)) xs)) ≡ cond b (f x ∷ filter test (map f xs)) (filter test (map f xs))
      by_test true h = ap (λ l. f x ∷ l) h
      by_test false h = h

  pub map_find : (xs : List X) → option_map f (find (λ x. test (f x)) xs) ≡ find test (map f xs)
  map_find [] = refl
  map_find (x ∷ xs) = by_test (test (f x)) (map_find xs)
    where
      by_test : (b : Bool) → option_map f (find (λ x. test (f x)) xs) ≡ find test (map f xs) → option_map f (cond b (Some x) (find (λ x. test (f x)) xs)) ≡ cond b (Some (f x)) (find test (map f xs))
      by_test true h = refl
      by_test false h = h
