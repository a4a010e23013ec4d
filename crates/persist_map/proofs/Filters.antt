-- The pairs that pass a test, after one pair was put or taken out.
use Rattle.std.proofs.Common.{◌≡◌, Bool, true, false, cond, not, List, [], ◌∷◌, ◌++◌, filter, find, Some, None, refl, sym, ap, ◌∙◌, subst}
use Rattle.std.proofs.lemmas.Bool.{false≢true}
use Rattle.std.proofs.lemmas.Option.{none-some, same_Some}
use Rattle.std.proofs.lemmas.List.Elements.{filter-append}
use Rattle.std.specs.Cmp.{IsTotalOrder}
use Rattle.std.specs.List.{AllByRecursion}
use Rattle.std.specs.Option.{option_map}
use Rattle.std.specs.declared.cmp.Ordering.{Ordering}
use Rattle.std.specs.declared.cmp.Ordering.TheVariants.{Less, Equal, Greater}
use Rattle.std.specs.Ordering.{is_lt, is_eq, is_gt}
use Rattle.persist_map.specs.Pairs.{is_below, is_above, has_key, value_at, with_pair, without_key}
use Rattle.persist_map.proofs.Edits.{filter_all, filter_none, find_none, tested}
use Rattle.persist_map.proofs.Orders.{greater_later, equal, Precedes, Rises, every_weaker}

-- one item of a list that is filtered
module _ {X : Type 0} (test : X → Bool) (x : X) (xs : List X) where
  pub passed : test x ≡ true → filter test (x ∷ xs) ≡ x ∷ filter test xs
  passed e = ap (λ b. cond b (x ∷ filter test xs) (filter test xs)) e

  pub failed : test x ≡ false → filter test (x ∷ xs) ≡ filter test xs
  failed e = ap (λ b. cond b (x ∷ filter test xs) (filter test xs)) e

-- what all have, those that pass have
every_passed : {X : Type 0} (P : X → Type 0) (test : X → Bool) (xs : List X) → AllByRecursion (λ x. test x ≡ true → P x) xs → AllByRecursion P (filter test xs)
every_passed P test [] h = tt
every_passed P test (x ∷ xs) h = by_test (test x) refl (every_passed P test xs h.1)
  where
    by_test : (b : Bool) → test x ≡ b → AllByRecursion P (filter test xs) → AllByRecursion P (filter test (x ∷ xs))
    by_test true e rest = subst (AllByRecursion P) (sym (passed test x xs e)) (h.0 e, rest)
    by_test false e rest = subst (AllByRecursion P) (sym (failed test x xs e)) rest

every : {X : Type 0} (P : X → Type 0) → ((x : X) → P x) → (xs : List X) → AllByRecursion P xs
every P h [] = tt
every P h (x ∷ xs) = (h x, every P h xs)

-- two tests may be taken in either order
module _ {X : Type 0} (test keep : X → Bool) where
  turned_at : (x : X) (xs : List X) (t k : Bool) → test x ≡ t → keep x ≡ k → filter test (filter keep xs) ≡ filter keep (filter test xs) → filter test (cond k (x ∷ filter keep xs) (filter keep xs)) ≡ filter keep (cond t (x ∷ filter test xs) (filter test xs))
  turned_at x xs true true e f h = passed test x (filter keep xs) e ∙ ap (λ l. x ∷ l) h ∙ sym (passed keep x (filter test xs) f)
  turned_at x xs true false e f h = h ∙ sym (failed keep x (filter test xs) f)
  turned_at x xs false true e f h = failed test x (filter keep xs) e ∙ h
  turned_at x xs false false e f h = h

  pub filter_turned : (xs : List X) → filter test (filter keep xs) ≡ filter keep (filter test xs)
  filter_turned [] = refl
  filter_turned (x ∷ xs) = turned_at x xs (test x) (keep x) refl refl (filter_turned xs)

  -- a second test that all pass who pass the first one
  filter_within : ((x : X) → test x ≡ true → keep x ≡ true) → (xs : List X) → filter test (filter keep xs) ≡ filter test xs
  filter_within kept xs = filter_turned xs ∙ filter_all keep (filter test xs) (every_passed (λ x. keep x ≡ true) test xs (every (λ x. test x ≡ true → keep x ≡ true) kept xs))

module _ {K V : Type 0} {cmp : K → K → Ordering} (order : IsTotalOrder cmp) (key : K) where
  -- what is behind a pair that isn't below the key
  rest_greater : (pair : K × V) (pairs : List (K × V)) → Rises cmp (pair ∷ pairs) → is_lt (cmp pair.0 key) ≡ false → AllByRecursion (λ other. cmp other.0 key ≡ Greater) pairs
  rest_greater pair pairs up e = every_weaker cmp (Precedes cmp pair) (λ other. cmp other.0 key ≡ Greater) (λ other before. greater_later order pair.0 other.0 key before e) pairs up.0

  -- the smaller keys and the greater ones are the others
  below_above : (pairs : List (K × V)) → Rises cmp pairs → filter (is_below cmp key) pairs ++ filter (is_above cmp key) pairs ≡ without_key cmp pairs key
  below_above [] up = refl
  below_above (pair ∷ pairs) up = by_order (cmp pair.0 key) refl (below_above pairs up.1)
    where
      below : List (K × V)
      below = filter (is_below cmp key) pairs

      above : List (K × V)
      above = filter (is_above cmp key) pairs

      others : List (K × V)
      others = without_key cmp pairs key

      tested_so : (o : Ordering) → cmp pair.0 key ≡ o → filter (is_below cmp key) (pair ∷ pairs) ++ filter (is_above cmp key) (pair ∷ pairs) ≡ cond (is_lt o) (pair ∷ below) below ++ cond (is_gt o) (pair ∷ above) above
      tested_so o e = ap (λ o. cond (is_lt o) (pair ∷ below) below ++ cond (is_gt o) (pair ∷ above) above) e

      kept_so : (o : Ordering) → cmp pair.0 key ≡ o → cond (not (is_eq o)) (pair ∷ others) others ≡ without_key cmp (pair ∷ pairs) key
      kept_so o e = sym (ap (λ o. cond (not (is_eq o)) (pair ∷ others) others) e)

      by_order : (o : Ordering) → cmp pair.0 key ≡ o → below ++ above ≡ others → filter (is_below cmp key) (pair ∷ pairs) ++ filter (is_above cmp key) (pair ∷ pairs) ≡ without_key cmp (pair ∷ pairs) key
      by_order Less e rest = tested_so Less e ∙ ap (λ l. pair ∷ l) rest ∙ kept_so Less e
      by_order Equal e rest = tested_so Equal e ∙ rest ∙ kept_so Equal e
      by_order Greater e rest =
          let none : below ≡ [] = filter_none (is_below cmp key) pairs (tested cmp key is_lt false Greater refl pairs (rest_greater pair pairs up (ap is_lt e))) in
          tested_so Greater e
          ∙ ap (λ l. l ++ (pair ∷ above)) none
          ∙ ap (λ l. pair ∷ l) (ap (λ l. l ++ above) (sym none) ∙ rest)
          ∙ kept_so Greater e

  -- a key that has no value is no pair's
  pub none_has_key : (pairs : List (K × V)) → value_at cmp pairs key ≡ None → AllByRecursion (λ pair. has_key cmp key pair ≡ false) pairs
  none_has_key [] none = tt
  none_has_key (pair ∷ pairs) none = by_test (has_key cmp key pair) refl (none_has_key pairs)
    where
      by_test : (b : Bool) → has_key cmp key pair ≡ b → (value_at cmp pairs key ≡ None → AllByRecursion (λ other. has_key cmp key other ≡ false) pairs) → AllByRecursion (λ other. has_key cmp key other ≡ false) (pair ∷ pairs)
      by_test true e rest = absurd (none-some pair.1 (sym none ∙ ap (λ b. option_map (λ (other : K × V). other.1) (cond b (Some pair) (find (has_key cmp key) pairs))) e))
      by_test false e rest = (e, rest (sym (ap (λ b. option_map (λ (other : K × V). other.1) (cond b (Some pair) (find (has_key cmp key) pairs))) e) ∙ none))

  pub none_found : (pairs : List (K × V)) → AllByRecursion (λ pair. has_key cmp key pair ≡ false) pairs → value_at cmp pairs key ≡ None
  none_found pairs absent = ap (option_map (λ (pair : K × V). pair.1)) (find_none (has_key cmp key) pairs absent)

  -- where no pair has the key, none is taken out
  pub without_absent : (pairs : List (K × V)) → AllByRecursion (λ pair. has_key cmp key pair ≡ false) pairs → without_key cmp pairs key ≡ pairs
  without_absent pairs absent = filter_all (λ pair. not (has_key cmp key pair)) pairs (every_weaker cmp (λ pair. has_key cmp key pair ≡ false) (λ pair. not (has_key cmp key pair) ≡ true) (λ pair e. ap not e) pairs absent)

  module _ (passes : K × V → Bool) where
    -- a pair that passes is put among those that pass
    pub filter_with_pair : (pairs : List (K × V)) (value : V) → passes (key, value) ≡ true → filter passes (with_pair cmp pairs key value) ≡ with_pair cmp (filter passes pairs) key value
    filter_with_pair pairs value e =
        filter-append passes (filter (is_below cmp key) pairs) ((key, value) ∷ filter (is_above cmp key) pairs)
        ∙ ap (λ l. l ++ filter passes ((key, value) ∷ filter (is_above cmp key) pairs)) (filter_turned passes (is_below cmp key) pairs)
        ∙ ap (λ l. filter (is_below cmp key) (filter passes pairs) ++ l) (passed passes (key, value) (filter (is_above cmp key) pairs) e ∙ ap (λ (l : List (K × V)). (key, value) ∷ l) (filter_turned passes (is_above cmp key) pairs))

    -- a pair that doesn't pass takes out the one of its key
    pub filter_with_other : (pairs : List (K × V)) (value : V) → Rises cmp pairs → passes (key, value) ≡ false → filter passes (with_pair cmp pairs key value) ≡ without_key cmp (filter passes pairs) key
    filter_with_other pairs value up e =
        filter-append passes (filter (is_below cmp key) pairs) ((key, value) ∷ filter (is_above cmp key) pairs)
        ∙ ap (λ l. filter passes (filter (is_below cmp key) pairs) ++ l) (failed passes (key, value) (filter (is_above cmp key) pairs) e)
        ∙ sym (filter-append passes (filter (is_below cmp key) pairs) (filter (is_above cmp key) pairs))
        ∙ ap (filter passes) (below_above pairs up)
        ∙ filter_turned passes (λ pair. not (has_key cmp key pair)) pairs

    pub filter_without_key : (pairs : List (K × V)) → filter passes (without_key cmp pairs key) ≡ without_key cmp (filter passes pairs) key
    filter_without_key pairs = filter_turned passes (λ pair. not (has_key cmp key pair)) pairs

  -- a key whose value doesn't pass is no key of those that pass
  pub passed_apart : (passes : V → Bool) (pairs : List (K × V)) (value : V) → Rises cmp pairs → value_at cmp pairs key ≡ Some value → passes value ≡ false → AllByRecursion (λ pair. has_key cmp key pair ≡ false) (filter (λ pair. passes pair.1) pairs)
  passed_apart passes [] value up at out = tt
  passed_apart passes (pair ∷ pairs) value up at out = by_test (has_key cmp key pair) refl (λ later. passed_apart passes pairs value up.1 later out)
    where
      Apart : List (K × V) → Type 0
      Apart others = AllByRecursion (λ other. has_key cmp key other ≡ false) others

      first : (b : Bool) → has_key cmp key pair ≡ b → option_map (λ (other : K × V). other.1) (cond b (Some pair) (find (has_key cmp key) pairs)) ≡ Some value
      first b e = sym (ap (λ b. option_map (λ (other : K × V). other.1) (cond b (Some pair) (find (has_key cmp key) pairs))) e) ∙ at

      with_first : (b : Bool) → passes pair.1 ≡ b → has_key cmp key pair ≡ false → Apart (filter (λ other. passes other.1) pairs) → Apart (filter (λ other. passes other.1) (pair ∷ pairs))
      with_first true f e apart = subst Apart (sym (passed (λ (other : K × V). passes other.1) pair pairs f)) (e, apart)
      with_first false f e apart = subst Apart (sym (failed (λ (other : K × V). passes other.1) pair pairs f)) apart

      by_test : (b : Bool) → has_key cmp key pair ≡ b → (value_at cmp pairs key ≡ Some value → Apart (filter (λ other. passes other.1) pairs)) → Apart (filter (λ other. passes other.1) (pair ∷ pairs))
      by_test true e rest =
          let behind = rest_greater pair pairs up (ap is_lt (equal (cmp pair.0 key) e)) in
          subst Apart (sym (failed (λ (other : K × V). passes other.1) pair pairs (ap passes (same_Some pair.1 value (first true e)) ∙ out)))
          (every_passed (λ other. has_key cmp key other ≡ false) (λ other. passes other.1) pairs (every_weaker cmp (λ other. cmp other.0 key ≡ Greater) (λ other. passes other.1 ≡ true → has_key cmp key other ≡ false) (λ other f _. ap is_eq f) pairs behind))
      by_test false e rest = with_first (passes pair.1) refl e (rest (first false e))

  -- a pair is put in place of the one that was taken out
  pub with_pair_over : (pairs : List (K × V)) (value : V) → with_pair cmp (without_key cmp pairs key) key value ≡ with_pair cmp pairs key value
  with_pair_over pairs value =
      ap (λ l. l ++ ((key, value) ∷ filter (is_above cmp key) (without_key cmp pairs key))) (filter_within (is_below cmp key) (λ pair. not (has_key cmp key pair)) (λ pair e. not_equal_less (cmp pair.0 key) e) pairs)
      ∙ ap (λ (l : List (K × V)). filter (is_below cmp key) pairs ++ ((key, value) ∷ l)) (filter_within (is_above cmp key) (λ pair. not (has_key cmp key pair)) (λ pair e. not_equal_greater (cmp pair.0 key) e) pairs)
    where
      not_equal_less : (o : Ordering) → is_lt o ≡ true → not (is_eq o) ≡ true
      not_equal_less Less e = refl
      not_equal_less Equal e = absurd (false≢true e)
      not_equal_less Greater e = refl

      not_equal_greater : (o : Ordering) → is_gt o ≡ true → not (is_eq o) ≡ true
      not_equal_greater Less e = refl
      not_equal_greater Equal e = absurd (false≢true e)
      not_equal_greater Greater e = refl
