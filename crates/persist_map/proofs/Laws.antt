-- What a map answers of a key after a change.
use Rattle.std.proofs.Common.{◌≡◌, Bool, true, false, cond, not, List, [], ◌∷◌, ◌++◌, filter, find, Some, None, refl, sym, ap, ◌∙◌}
use Rattle.std.proofs.lemmas.Bool.{false≢true}
use Rattle.std.proofs.lemmas.Option.{none-some}
use Rattle.std.proofs.lemmas.Cmp.{tied_back}
use Rattle.std.specs.Cmp.{IsTotalOrder}
use Rattle.std.specs.Option.{option_map}
use Rattle.std.specs.declared.cmp.Ordering.{Ordering}
use Rattle.std.specs.declared.cmp.Ordering.TheVariants.{Less, Equal, Greater}
use Rattle.std.specs.Ordering.{is_lt, is_eq, is_gt}
use Rattle.persist_map.specs.Pairs.{is_below, is_above, has_key, value_at, with_pair, without_key}
use Rattle.persist_map.proofs.Orders.{equal}

-- one item of a list that is searched, and whether it is kept
module _ {X : Type 0} (test : X → Bool) (item : X) where
  passed_over : (items : List X) → test item ≡ false → find test (item ∷ items) ≡ find test items
  passed_over items e = ap (λ t. cond t (Some item) (find test items)) e

  found_first : (items : List X) → test item ≡ true → find test (item ∷ items) ≡ Some item
  found_first items e = ap (λ t. cond t (Some item) (find test items)) e

  kept_item : (k t : Bool) → test item ≡ t → (t ≡ true → k ≡ true) → (kept items : List X) → find test kept ≡ find test items → find test (cond k (item ∷ kept) kept) ≡ find test (item ∷ items)
  kept_item true true e both kept items h = found_first kept e ∙ sym (found_first items e)
  kept_item true false e both kept items h = passed_over kept e ∙ h ∙ sym (passed_over items e)
  kept_item false true e both kept items h = absurd (false≢true (both refl))
  kept_item false false e both kept items h = h ∙ sym (passed_over items e)

  left_item : (k t : Bool) → test item ≡ t → (t ≡ true → k ≡ false) → (kept : List X) → find test kept ≡ None → find test (cond k (item ∷ kept) kept) ≡ None
  left_item false t e left kept h = h
  left_item true true e left kept h = absurd (false≢true (sym (left refl)))
  left_item true false e left kept h = passed_over kept e ∙ h

module _ {X : Type 0} (test keep : X → Bool) where
  -- what is sought is kept
  pub find_kept : ((x : X) → test x ≡ true → keep x ≡ true) → (xs : List X) → find test (filter keep xs) ≡ find test xs
  find_kept kept [] = refl
  find_kept kept (x ∷ xs) = kept_item test x (keep x) (test x) refl (kept x) (filter keep xs) xs (find_kept kept xs)

  -- what is sought is left out
  pub find_left_out : ((x : X) → test x ≡ true → keep x ≡ false) → (xs : List X) → find test (filter keep xs) ≡ None
  find_left_out left [] = refl
  find_left_out left (x ∷ xs) = left_item test x (keep x) (test x) refl (left x) (filter keep xs) (find_left_out left xs)

-- a search in two lists
none_first : {X : Type 0} (test : X → Bool) (x : X) (t : Bool) (xs ys zs : List X) → test x ≡ t → find test (x ∷ xs) ≡ None → (find test xs ≡ None → find test zs ≡ find test ys) → find test (x ∷ zs) ≡ find test ys
none_first test x true xs ys zs e none h = absurd (none-some x (sym none ∙ found_first test x xs e))
none_first test x false xs ys zs e none h = passed_over test x zs e ∙ h (sym (passed_over test x xs e) ∙ none)

find_first : {X : Type 0} (test : X → Bool) (xs ys : List X) → find test xs ≡ None → find test (xs ++ ys) ≡ find test ys
find_first test [] ys none = refl
find_first test (x ∷ xs) ys none = none_first test x (test x) xs ys (xs ++ ys) refl none (find_first test xs ys)

find_second : {X : Type 0} (test : X → Bool) (xs ys : List X) → find test ys ≡ None → find test (xs ++ ys) ≡ find test xs
find_second test [] ys none = none
find_second test (x ∷ xs) ys none = ap (λ o. cond (test x) (Some x) o) (find_second test xs ys none)

module _ {K V : Type 0} {cmp : K → K → Ordering} (order : IsTotalOrder cmp) where
  -- what is known of a pair of one key, of its order to another key
  told : (test : Ordering → Bool) (key other : K) (b : Bool) → test (cmp key other) ≡ b → (pair : K × V) → has_key cmp key pair ≡ true → test (cmp pair.0 other) ≡ b
  told test key other b e pair has = ap test (order.congr pair.0 key other (equal (cmp pair.0 key) has)) ∙ e

  -- the pair that was put has the key's value
  pub value_at-with_pair : (pairs : List (K × V)) (key : K) (value : V) (other : K) → cmp key other ≡ Equal → value_at cmp (with_pair cmp pairs key value) other ≡ Some value
  value_at-with_pair pairs key value other same =
      ap (option_map (λ (pair : K × V). pair.1))
      (find_first (has_key cmp other) (filter (is_below cmp key) pairs) ((key, value) ∷ filter (is_above cmp key) pairs)
      (find_left_out (has_key cmp other) (is_below cmp key) (told is_lt other key false (ap is_lt (tied_back order key other same))) pairs)
      ∙ ap (λ o. cond (is_eq o) (Some (key, value)) (find (has_key cmp other) (filter (is_above cmp key) pairs))) same)

  -- other keys keep their values
  pub value_at-with_pair-other : (pairs : List (K × V)) (key : K) (value : V) (other : K) → is_eq (cmp key other) ≡ false → value_at cmp (with_pair cmp pairs key value) other ≡ value_at cmp pairs other
  value_at-with_pair-other pairs key value other apart = ap (option_map (λ (pair : K × V). pair.1)) (by_order (cmp other key) refl)
    where
      past : find (has_key cmp other) ((key, value) ∷ filter (is_above cmp key) pairs) ≡ find (has_key cmp other) (filter (is_above cmp key) pairs)
      past = ap (λ b. cond b (Some (key, value)) (find (has_key cmp other) (filter (is_above cmp key) pairs))) apart

      by_order : (o : Ordering) → cmp other key ≡ o → find (has_key cmp other) (filter (is_below cmp key) pairs ++ ((key, value) ∷ filter (is_above cmp key) pairs)) ≡ find (has_key cmp other) pairs
      by_order Less e =
          find_second (has_key cmp other) (filter (is_below cmp key) pairs) ((key, value) ∷ filter (is_above cmp key) pairs) (past ∙ find_left_out (has_key cmp other) (is_above cmp key) (told is_gt other key false (ap is_gt e)) pairs)
          ∙ find_kept (has_key cmp other) (is_below cmp key) (told is_lt other key true (ap is_lt e)) pairs
      by_order Equal e = absurd (false≢true (sym apart ∙ ap is_eq (tied_back order other key e)))
      by_order Greater e =
          find_first (has_key cmp other) (filter (is_below cmp key) pairs) ((key, value) ∷ filter (is_above cmp key) pairs) (find_left_out (has_key cmp other) (is_below cmp key) (told is_lt other key false (ap is_lt e)) pairs)
          ∙ past ∙ find_kept (has_key cmp other) (is_above cmp key) (told is_gt other key true (ap is_gt e)) pairs

  -- the key that was removed has no value
  pub value_at-without_key : (pairs : List (K × V)) (key other : K) → cmp key other ≡ Equal → value_at cmp (without_key cmp pairs key) other ≡ None
  value_at-without_key pairs key other same =
      ap (option_map (λ (pair : K × V). pair.1))
      (find_left_out (has_key cmp other) (λ pair. not (has_key cmp key pair)) (told (λ o. not (is_eq o)) other key false (ap (λ o. not (is_eq o)) (tied_back order key other same))) pairs)

  pub value_at-without_key-other : (pairs : List (K × V)) (key other : K) → is_eq (cmp other key) ≡ false → value_at cmp (without_key cmp pairs key) other ≡ value_at cmp pairs other
  value_at-without_key-other pairs key other apart =
      ap (option_map (λ (pair : K × V). pair.1))
      (find_kept (has_key cmp other) (λ pair. not (has_key cmp key pair)) (told (λ o. not (is_eq o)) other key true (ap not apart)) pairs)
