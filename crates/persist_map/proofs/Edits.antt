-- What the definitions of a map's calls say of a list that is cut at a key's place.
use Rattle.std.proofs.Common.{◌≡◌, Bool, true, false, cond, not, List, [], ◌∷◌, ◌++◌, filter, find, Some, None, refl, sym, ap, ◌∙◌, subst}
use Rattle.std.proofs.lemmas.List.Elements.{filter-append}
use Rattle.std.specs.Cmp.{IsTotalOrder}
use Rattle.std.specs.List.{AllByRecursion}
use Rattle.std.specs.Option.{option_map}
use Rattle.std.specs.declared.cmp.Ordering.{Ordering}
use Rattle.std.specs.declared.cmp.Ordering.TheVariants.{Less, Equal, Greater}
use Rattle.std.specs.Ordering.{is_lt, is_eq, is_gt}
use Rattle.persist_map.specs.Pairs.{is_below, is_above, has_key, value_at, with_pair, without_key, pairs_from, pairs_above}
use Rattle.persist_map.specs.Parts.{begins_with, first_value}
use Rattle.persist_map.proofs.Orders.{equal, greater_otherwise, greater_later, rises_with, Precedes, Rises, every_front, every_back, every_both, every_weaker, rises_back}

-- the pairs behind the first one, where that has the key
abbrev pub rest_behind : {A : Type 0} → Bool → List A → List A
rest_behind here [] = []
rest_behind true (pair ∷ pairs) = pairs
rest_behind false (pair ∷ pairs) = pair ∷ pairs

module _ {X : Type 0} (passes : X → Bool) where
  pub filter_all : (xs : List X) → AllByRecursion (λ x. passes x ≡ true) xs → filter passes xs ≡ xs
  filter_all [] h = refl
  filter_all (x ∷ xs) h = ap (λ b. cond b (x ∷ filter passes xs) (filter passes xs)) h.0 ∙ ap (λ l. x ∷ l) (filter_all xs h.1)

  pub filter_none : (xs : List X) → AllByRecursion (λ x. passes x ≡ false) xs → filter passes xs ≡ []
  filter_none [] h = refl
  filter_none (x ∷ xs) h = ap (λ b. cond b (x ∷ filter passes xs) (filter passes xs)) h.0 ∙ filter_none xs h.1

  -- what passes is all of a list's front, and nothing of its back
  filter_front : (front back : List X) → AllByRecursion (λ x. passes x ≡ true) front → AllByRecursion (λ x. passes x ≡ false) back → filter passes (front ++ back) ≡ front
  filter_front [] back h k = filter_none back k
  filter_front (x ∷ xs) back h k = ap (λ b. cond b (x ∷ filter passes (xs ++ back)) (filter passes (xs ++ back))) h.0 ∙ ap (λ l. x ∷ l) (filter_front xs back h.1 k)

  filter_back : (front back : List X) → AllByRecursion (λ x. passes x ≡ false) front → AllByRecursion (λ x. passes x ≡ true) back → filter passes (front ++ back) ≡ back
  filter_back [] back h k = filter_all back k
  filter_back (x ∷ xs) back h k = ap (λ b. cond b (x ∷ filter passes (xs ++ back)) (filter passes (xs ++ back))) h.0 ∙ filter_back xs back h.1 k

  find_back : (front back : List X) → AllByRecursion (λ x. passes x ≡ false) front → find passes (front ++ back) ≡ find passes back
  find_back [] back h = refl
  find_back (x ∷ xs) back h = ap (λ b. cond b (Some x) (find passes (xs ++ back))) h.0 ∙ find_back xs back h.1

  pub find_none : (xs : List X) → AllByRecursion (λ x. passes x ≡ false) xs → find passes xs ≡ None
  find_none [] h = refl
  find_none (x ∷ xs) h = ap (λ b. cond b (Some x) (find passes xs)) h.0 ∙ find_none xs h.1

module _ {K V : Type 0} (cmp : K → K → Ordering) (key : K) where
  -- a list of ascending pairs in three: those below the key, those from the key on in its part, and those behind the part
  pub record IsSplit (pairs front here later : List (K × V)) : Type 0 where
    pub is : pairs ≡ front ++ (here ++ later)
    pub before : AllByRecursion (λ pair. cmp pair.0 key ≡ Less) front
    pub at : AllByRecursion (λ pair. is_below cmp key pair ≡ false) here
    pub behind : AllByRecursion (λ pair. cmp pair.0 key ≡ Greater) later
    pub rises : Rises cmp pairs

  -- what a test of the answer says where the answer is known
  pub tested : (test : Ordering → Bool) (b : Bool) (o : Ordering) → test o ≡ b → (pairs : List (K × V)) → AllByRecursion (λ pair. cmp pair.0 key ≡ o) pairs → AllByRecursion (λ pair. test (cmp pair.0 key) ≡ b) pairs
  tested test b o e = every_weaker cmp (λ pair. cmp pair.0 key ≡ o) (λ pair. test (cmp pair.0 key) ≡ b) (λ pair f. ap test f ∙ e)

  every_rest : (P : K × V → Type 0) (b : Bool) (here later : List (K × V)) → AllByRecursion P (here ++ later) → AllByRecursion P (rest_behind b here ++ later)
  every_rest P b [] later h = h
  every_rest P true (pair ∷ pairs) later h = h.1
  every_rest P false (pair ∷ pairs) later h = h

  rises_rest : (b : Bool) (front here later : List (K × V)) → Rises cmp (front ++ (here ++ later)) → Rises cmp (front ++ (rest_behind b here ++ later))
  rises_rest b [] [] later up = up
  rises_rest true [] (pair ∷ pairs) later up = up.1
  rises_rest false [] (pair ∷ pairs) later up = up
  rises_rest b (pair ∷ pairs) here later up = (
    every_both cmp (Precedes cmp pair) pairs (rest_behind b here ++ later) (every_front cmp (Precedes cmp pair) pairs (here ++ later) up.0) (every_rest (Precedes cmp pair) b here later (every_back cmp (Precedes cmp pair) pairs (here ++ later) up.0)),
    rises_rest b pairs here later up.1,
  )

module _ {K V : Type 0} {cmp : K → K → Ordering} (order : IsTotalOrder cmp) (key : K) where
  -- what is behind the key's own place is above it
  rest_above : (here later : List (K × V)) → Rises cmp (here ++ later) → AllByRecursion (λ pair. is_below cmp key pair ≡ false) here → AllByRecursion (λ pair. cmp pair.0 key ≡ Greater) later → AllByRecursion (λ pair. cmp pair.0 key ≡ Greater) (rest_behind (begins_with cmp key here) here ++ later)
  rest_above [] later up not_below above = above
  rest_above (pair ∷ pairs) later up not_below above = by_test (is_eq (cmp pair.0 key)) refl
    where
      rest_greater : AllByRecursion (λ other. cmp other.0 key ≡ Greater) (pairs ++ later)
      rest_greater = every_weaker cmp (Precedes cmp pair) (λ other. cmp other.0 key ≡ Greater) (λ other before. greater_later order pair.0 other.0 key before not_below.0) (pairs ++ later) up.0

      by_test : (b : Bool) → is_eq (cmp pair.0 key) ≡ b → AllByRecursion (λ other. cmp other.0 key ≡ Greater) (rest_behind (is_eq (cmp pair.0 key)) (pair ∷ pairs) ++ later)
      by_test true e = subst (λ b. AllByRecursion (λ other. cmp other.0 key ≡ Greater) (rest_behind b (pair ∷ pairs) ++ later)) (sym e) rest_greater
      by_test false e = subst (λ b. AllByRecursion (λ other. cmp other.0 key ≡ Greater) (rest_behind b (pair ∷ pairs) ++ later)) (sym e) (greater_otherwise (cmp pair.0 key) not_below.0 e, rest_greater)

  -- the first pair has the key, or none has it
  filter_here : (test : Ordering → Bool) → test Greater ≡ true → test Equal ≡ false → (here later : List (K × V)) → AllByRecursion (λ pair. is_below cmp key pair ≡ false) here → AllByRecursion (λ pair. cmp pair.0 key ≡ Greater) (rest_behind (begins_with cmp key here) here ++ later) → filter (λ pair. test (cmp pair.0 key)) (here ++ later) ≡ rest_behind (begins_with cmp key here) here ++ later
  filter_here test greater_passes equal_fails [] later not_below above = filter_all (λ pair. test (cmp pair.0 key)) later (tested cmp key test true Greater greater_passes later above)
  filter_here test greater_passes equal_fails (pair ∷ pairs) later not_below above = by_test (is_eq (cmp pair.0 key)) refl
    where
      by_test : (b : Bool) → is_eq (cmp pair.0 key) ≡ b → filter (λ other. test (cmp other.0 key)) (pair ∷ pairs ++ later) ≡ rest_behind (is_eq (cmp pair.0 key)) (pair ∷ pairs) ++ later
      by_test true e =
          let rest = subst (λ b. AllByRecursion (λ other. cmp other.0 key ≡ Greater) (rest_behind b (pair ∷ pairs) ++ later)) e above in
          ap (λ b. cond b (pair ∷ filter (λ other. test (cmp other.0 key)) (pairs ++ later)) (filter (λ other. test (cmp other.0 key)) (pairs ++ later))) (ap test (equal (cmp pair.0 key) e) ∙ equal_fails)
          ∙ filter_all (λ other. test (cmp other.0 key)) (pairs ++ later) (tested cmp key test true Greater greater_passes (pairs ++ later) rest)
          ∙ sym (ap (λ b. rest_behind b (pair ∷ pairs) ++ later) e)
      by_test false e =
          let rest = subst (λ b. AllByRecursion (λ other. cmp other.0 key ≡ Greater) (rest_behind b (pair ∷ pairs) ++ later)) e above in
          filter_all (λ other. test (cmp other.0 key)) (pair ∷ pairs ++ later) (tested cmp key test true Greater greater_passes (pair ∷ pairs ++ later) rest)
          ∙ sym (ap (λ b. rest_behind b (pair ∷ pairs) ++ later) e)

  module _ (pairs front here later : List (K × V)) (split : IsSplit cmp key pairs front here later) where
    pub back_rises : Rises cmp (here ++ later)
    back_rises = rises_back cmp front (here ++ later) (subst (Rises cmp) split.is split.rises)

    back_above : AllByRecursion (λ pair. cmp pair.0 key ≡ Greater) (rest_behind (begins_with cmp key here) here ++ later)
    back_above = rest_above here later back_rises split.at split.behind

    back_not_below : AllByRecursion (λ pair. is_below cmp key pair ≡ false) (here ++ later)
    back_not_below = every_both cmp (λ pair. is_below cmp key pair ≡ false) here later split.at (tested cmp key is_lt false Greater refl later split.behind)

    pub pairs_from_split : pairs_from cmp pairs key ≡ here ++ later
    pairs_from_split =
        ap (λ l. pairs_from cmp l key) split.is
        ∙ filter_back (λ pair. not (is_below cmp key pair)) front (here ++ later) (tested cmp key (λ o. not (is_lt o)) false Less refl front split.before)
        (every_weaker cmp (λ pair. is_below cmp key pair ≡ false) (λ pair. not (is_below cmp key pair) ≡ true) (λ pair e. ap not e) (here ++ later) back_not_below)

    above_split : filter (is_above cmp key) (front ++ (here ++ later)) ≡ rest_behind (begins_with cmp key here) here ++ later
    above_split =
        filter-append (is_above cmp key) front (here ++ later)
        ∙ ap (λ l. l ++ filter (is_above cmp key) (here ++ later)) (filter_none (is_above cmp key) front (tested cmp key is_gt false Less refl front split.before))
        ∙ filter_here is_gt refl refl here later split.at back_above

    pub pairs_above_split : pairs_above cmp pairs key ≡ rest_behind (begins_with cmp key here) here ++ later
    pairs_above_split = ap (λ l. pairs_above cmp l key) split.is ∙ above_split

    pub without_key_split : without_key cmp pairs key ≡ front ++ (rest_behind (begins_with cmp key here) here ++ later)
    without_key_split =
        ap (λ l. without_key cmp l key) split.is
        ∙ filter-append (λ pair. not (has_key cmp key pair)) front (here ++ later)
        ∙ ap (λ l. l ++ filter (λ pair. not (has_key cmp key pair)) (here ++ later)) (filter_all (λ pair. not (has_key cmp key pair)) front (tested cmp key (λ o. not (is_eq o)) true Less refl front split.before))
        ∙ ap (λ l. front ++ l) (filter_here (λ o. not (is_eq o)) refl refl here later split.at back_above)

    pub with_pair_split : (value : V) → with_pair cmp pairs key value ≡ front ++ ((key, value) ∷ (rest_behind (begins_with cmp key here) here ++ later))
    with_pair_split value =
        ap (λ l. with_pair cmp l key value) split.is
        ∙ ap (λ l. l ++ ((key, value) ∷ filter (is_above cmp key) (front ++ (here ++ later)))) (filter_front (is_below cmp key) front (here ++ later) (tested cmp key is_lt true Less refl front split.before) back_not_below)
        ∙ ap (λ l. front ++ ((key, value) ∷ l)) above_split

    pub value_at_split : value_at cmp pairs key ≡ first_value cmp key here
    value_at_split =
        ap (λ l. value_at cmp l key) split.is
        ∙ ap (option_map (λ (pair : K × V). pair.1)) (find_back (has_key cmp key) front (here ++ later) (tested cmp key is_eq false Less refl front split.before))
        ∙ value_here here back_above
      where
        value_here : (here : List (K × V)) → AllByRecursion (λ pair. cmp pair.0 key ≡ Greater) (rest_behind (begins_with cmp key here) here ++ later) → option_map (λ (pair : K × V). pair.1) (find (has_key cmp key) (here ++ later)) ≡ first_value cmp key here
        value_here [] above = ap (option_map (λ (pair : K × V). pair.1)) (find_none (has_key cmp key) later (tested cmp key is_eq false Greater refl later above))
        value_here (pair ∷ rest) above = by_test (is_eq (cmp pair.0 key)) refl
          where
            by_test : (b : Bool) → is_eq (cmp pair.0 key) ≡ b → option_map (λ (other : K × V). other.1) (cond (is_eq (cmp pair.0 key)) (Some pair) (find (has_key cmp key) (rest ++ later))) ≡ cond (is_eq (cmp pair.0 key)) (Some pair.1) None
            by_test true e = subst (λ b. option_map (λ (other : K × V). other.1) (cond b (Some pair) (find (has_key cmp key) (rest ++ later))) ≡ cond b (Some pair.1) None) (sym e) refl
            by_test false e =
                let behind = subst (λ b. AllByRecursion (λ other. cmp other.0 key ≡ Greater) (rest_behind b (pair ∷ rest) ++ later)) e above in
                subst (λ b. option_map (λ (other : K × V). other.1) (cond b (Some pair) (find (has_key cmp key) (rest ++ later))) ≡ cond b (Some pair.1) None) (sym e)
                (ap (option_map (λ (other : K × V). other.1)) (find_none (has_key cmp key) (rest ++ later) (tested cmp key is_eq false Greater refl (rest ++ later) behind.1)))

    pub without_rises : (b : Bool) → Rises cmp (front ++ (rest_behind b here ++ later))
    without_rises b = rises_rest cmp key b front here later (subst (Rises cmp) split.is split.rises)

    pub with_rises : (value : V) → Rises cmp (front ++ ((key, value) ∷ (rest_behind (begins_with cmp key here) here ++ later)))
    with_rises value = rises_with order (key, value) front (rest_behind (begins_with cmp key here) here ++ later) (without_rises (begins_with cmp key here)) split.before back_above

-- a pair behind all those of smaller keys
pub with_pair_behind : {K V : Type 0} (cmp : K → K → Ordering) (pairs : List (K × V)) (key : K) (value : V) → AllByRecursion (λ (pair : K × V). cmp pair.0 key ≡ Less) pairs → with_pair cmp pairs key value ≡ pairs ++ ((key, value) ∷ [])
with_pair_behind {V = V} cmp pairs key value below =
    ap (λ l. l ++ ((key, value) ∷ filter (is_above cmp key) pairs)) (filter_all (is_below cmp key) pairs (tested cmp key is_lt true Less refl pairs below))
    ∙ ap (λ (l : List (_ × V)). pairs ++ ((key, value) ∷ l)) (filter_none (is_above cmp key) pairs (tested cmp key is_gt false Less refl pairs below))
