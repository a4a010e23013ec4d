-- A map's list, cut at a key's place, and the parts of a changed map.
use Rattle.std.proofs.Common.{◌≡◌, ℕ, zero, suc, ◌+◌, ◌<◌, ◌≤◌, Bool, true, false, cond, List, [], ◌∷◌, ◌++◌, length, get_or, map, take, drop, All, refl, sym, ap, ◌∙◌, subst, append_assoc, length-append, add-one, arith}
use Rattle.std.proofs.lemmas.Bool.{false≢true}
use Rattle.std.proofs.lemmas.List.{take-append-drop, length-take-le, length-drop, length-map, append-nil}
use Rattle.std.proofs.Math.ListN.{drop_of_length-le}
use Rattle.std.proofs.lemmas.List.Concat.{flat_map-append}
use Rattle.std.proofs.lemmas.List.Elements.{recursion_from_All, All-from_recursion, All-append, All-take, All-drop, All-push}
use Rattle.std.specs.Cmp.{IsTotalOrder}
use Rattle.std.specs.List.{AllByRecursion, AllWithin}
use Rattle.std.specs.declared.cmp.Ordering.{Ordering}
use Rattle.std.specs.declared.cmp.Ordering.TheVariants.{Less, Greater}
use Rattle.persist_map.specs.Pairs.{Ascends, is_below, with_pair, without_key, pairs_from, pairs_above, value_at}
use Rattle.persist_map.specs.Parts.{IsTree, IsPlace, HaveSizes, begins_with, first_value, joined}
use Rattle.persist_map.specs.declared.parts.TheConstants.{PART_MAX}
use Rattle.persist_map.specs.declared.places.Place.{Place}
use Rattle.persist_map.proofs.Orders.{less, Rises, every_both, every_weaker, rises_with, rises_back, Rises-from_ascends, Ascends-from_rises}
use Rattle.persist_map.proofs.Edits.{IsSplit, rest_behind, pairs_from_split, pairs_above_split, without_key_split, with_pair_split, value_at_split, without_rises, with_rises, back_rises}
use Rattle.persist_map.proofs.Tree.{around}

every_take : {A : Type 0} (P : A → Type 0) (n : ℕ) (items : List A) → n ≤ length items → AllWithin P items 0 n → AllByRecursion P (take n items)
every_take P zero items h k = tt
every_take P (suc n) [] h k = absurd (omega arith)
every_take P (suc n) (item ∷ items) h k = (k 0 item (omega arith) (omega arith), every_take P n items (omega arith) (λ i d a b. k (suc i) d (omega arith) (omega arith)))

every_drop : {A : Type 0} (P : A → Type 0) (n : ℕ) (items : List A) → AllWithin P items n (length items) → AllByRecursion P (drop n items)
every_drop P zero [] k = tt
every_drop P zero (item ∷ items) k = (k 0 item (omega arith) (omega arith), every_drop P zero items (λ i d a b. k (suc i) d (omega arith) (omega arith)))
every_drop P (suc n) [] k = tt
every_drop P (suc n) (item ∷ items) k = every_drop P n items (λ i d a b. k (suc i) d (omega arith) (omega arith))

drop_suc : {A : Type 0} (n : ℕ) (items : List A) → drop (suc n) items ≡ rest_behind true (drop n items)
drop_suc zero [] = refl
drop_suc zero (item ∷ items) = refl
drop_suc (suc n) [] = refl
drop_suc (suc n) (item ∷ items) = drop_suc n items

-- what is behind the place after a place
pub drop_next : {A : Type 0} (n : ℕ) (items : List A) → drop (n + 1) items ≡ rest_behind true (drop n items)
drop_next n items = rw add-one (drop_suc n items)

pub rest_not : {A : Type 0} (items : List A) → rest_behind false items ≡ items
rest_not [] = refl
rest_not (item ∷ items) = refl

-- what is behind a place, or behind the next one
pub drop_behind : {A : Type 0} (b : Bool) (n next : ℕ) (items : List A) → next ≡ cond b (n + 1) n → drop next items ≡ rest_behind b (drop n items)
drop_behind true n next items is = ap (λ m. drop m items) is ∙ drop_next n items
drop_behind false n next items is = ap (λ m. drop m items) is ∙ sym (rest_not (drop n items))

-- a place where a key is
pub place_within : {K V : Type 0} (cmp : K → K → Ordering) (key : K) (n : ℕ) (pairs : List (K × V)) → begins_with cmp key (drop n pairs) ≡ true → n < length pairs
place_within cmp key zero [] e = absurd (false≢true e)
place_within cmp key zero (pair ∷ pairs) e = omega arith
place_within cmp key (suc n) [] e = absurd (false≢true e)
place_within cmp key (suc n) (pair ∷ pairs) e = omega (arith, place_within cmp key n pairs e)

-- how many pairs there are with one in place of the first, or before it, and without the first
counts_with : {A : Type 0} (front here later : List A) (item : A) (b : Bool) → (b ≡ true → 0 < length here) → length (front ++ (item ∷ (rest_behind b here ++ later))) ≡ cond b (length (front ++ (here ++ later))) (length (front ++ (here ++ later)) + 1)
counts_with front [] later item true some = absurd (omega (arith, some refl))
counts_with front (first ∷ rest) later item true some = simp length-append (omega arith)
counts_with front [] later item false some = simp length-append (omega arith)
counts_with front (first ∷ rest) later item false some = simp length-append (omega arith)

counts_without : {A : Type 0} (front here later : List A) → 0 < length here → length (front ++ (rest_behind true here ++ later)) + 1 ≡ length (front ++ (here ++ later))
counts_without front [] later some = absurd (omega arith)
counts_without front (first ∷ rest) later some = simp length-append (omega arith)

begins_some : {K V : Type 0} (cmp : K → K → Ordering) (key : K) (pairs : List (K × V)) → begins_with cmp key pairs ≡ true → 0 < length pairs
begins_some cmp key [] e = absurd (false≢true e)
begins_some cmp key (pair ∷ pairs) e = omega arith

-- a pair behind all others
module _ {K V : Type 0} {cmp : K → K → Ordering} (order : IsTotalOrder cmp) (key : K) (value : V) (parts : List (List (K × V))) (tree : IsTree cmp parts) (below : All (λ (pair : K × V). cmp pair.0 key ≡ Less) (joined parts)) where
  every_below : AllByRecursion (λ (pair : K × V). cmp pair.0 key ≡ Less) (joined parts)
  every_below = recursion_from_All (λ (pair : K × V). cmp pair.0 key ≡ Less) (joined parts) below

  joined_behind : (all : List (List (K × V))) → all ≡ parts ++ (((key, value) ∷ []) ∷ []) → joined all ≡ joined parts ++ ((key, value) ∷ [])
  joined_behind all is = ap joined is ∙ flat_map-append (λ l. l) parts (((key, value) ∷ []) ∷ [])

  pub tree_behind : (all : List (List (K × V))) → all ≡ parts ++ (((key, value) ∷ []) ∷ []) → IsTree cmp all
  tree_behind all is = record {
    ascends = subst (Ascends cmp) (sym (joined_behind all is)) (Ascends-from_rises cmp (joined parts ++ ((key, value) ∷ [])) (rises_with order (key, value) (joined parts) [] (subst (Rises cmp) (sym (append-nil (joined parts))) (Rises-from_ascends cmp (joined parts) tree.ascends)) every_below tt));
    sizes = subst HaveSizes (sym is) (All-push (λ (part : List (K × V)). (0 < length part) × (length part ≤ PART_MAX)) parts ((key, value) ∷ []) tree.sizes (omega arith, omega arith));
  }

  pub length_behind : (all : List (List (K × V))) → all ≡ parts ++ (((key, value) ∷ []) ∷ []) → length (joined all) ≡ length (joined parts) + 1
  length_behind all is = ap length (joined_behind all is) ∙ length-append (joined parts) ((key, value) ∷ [])

module _ {K V : Type 0} {cmp : K → K → Ordering} (order : IsTotalOrder cmp) (key : K) (parts : List (List (K × V))) (tree : IsTree cmp parts) (place : Place) (at : IsPlace cmp key parts place) where
  -- the pairs below the key, those of its part from it on, and those of the parts behind
  pub front_of : List (K × V)
  front_of = joined (take place.part parts) ++ take place.pair (get_or parts place.part [])

  pub here_of : List (K × V)
  here_of = drop place.pair (get_or parts place.part [])

  pub later_of : List (K × V)
  later_of = joined (drop (place.part + 1) parts)

  pub split_of : IsSplit cmp key (joined parts) front_of here_of later_of
  unfolding front_of here_of later_of
  split_of =
      let part = get_or parts place.part [] in
      record {
        is = around parts place.part at.part_in_range
            ∙ ap (λ l. joined (take place.part parts) ++ (l ++ joined (drop (place.part + 1) parts))) (sym (take-append-drop place.pair part))
            ∙ ap (λ l. joined (take place.part parts) ++ l) (append_assoc (take place.pair part) (drop place.pair part) (joined (drop (place.part + 1) parts)))
            ∙ sym (append_assoc (joined (take place.part parts)) (take place.pair part) (drop place.pair part ++ joined (drop (place.part + 1) parts)));
        before = every_both cmp (λ pair. cmp pair.0 key ≡ Less) (joined (take place.part parts)) (take place.pair part) (recursion_from_All (λ (pair : K × V). cmp pair.0 key ≡ Less) _ at.before)
            (every_weaker cmp (λ pair. is_below cmp key pair ≡ true) (λ pair. cmp pair.0 key ≡ Less) (λ pair e. less (cmp pair.0 key) e) (take place.pair part) (every_take (λ pair. is_below cmp key pair ≡ true) place.pair part at.cut.in_range at.cut.front));
        at = every_drop (λ pair. is_below cmp key pair ≡ false) place.pair part at.cut.back;
        behind = recursion_from_All (λ (pair : K × V). cmp pair.0 key ≡ Greater) _ at.behind;
        rises = Rises-from_ascends cmp (joined parts) tree.ascends;
      }

  pub value_found : value_at cmp (joined parts) key ≡ first_value cmp key (drop place.pair (get_or parts place.part []))
  unfolding front_of here_of later_of
  value_found = value_at_split order key (joined parts) front_of here_of later_of split_of

  pub pairs_found : pairs_from cmp (joined parts) key ≡ drop place.pair (get_or parts place.part []) ++ joined (drop (place.part + 1) parts)
  unfolding front_of here_of later_of
  pairs_found = pairs_from_split order key (joined parts) front_of here_of later_of split_of

  pub above_found : pairs_above cmp (joined parts) key ≡ rest_behind (begins_with cmp key (drop place.pair (get_or parts place.part []))) (drop place.pair (get_or parts place.part [])) ++ joined (drop (place.part + 1) parts)
  unfolding front_of here_of later_of
  above_found = pairs_above_split order key (joined parts) front_of here_of later_of split_of

  pub ascends_above : Ascends cmp (rest_behind (begins_with cmp key (drop place.pair (get_or parts place.part []))) (drop place.pair (get_or parts place.part [])) ++ joined (drop (place.part + 1) parts))
  unfolding front_of here_of later_of
  ascends_above =
      let here = drop place.pair (get_or parts place.part []) in
      Ascends-from_rises cmp _ (rises_back cmp front_of (rest_behind (begins_with cmp key here) here ++ later_of) (without_rises order key (joined parts) front_of here_of later_of split_of (begins_with cmp key here)))

  pub ascends_found : Ascends cmp (drop place.pair (get_or parts place.part []) ++ joined (drop (place.part + 1) parts))
  unfolding front_of here_of later_of
  ascends_found = Ascends-from_rises cmp _ (back_rises order key (joined parts) front_of here_of later_of split_of)

  -- the parts with others in place of one
  module _ (changed all : List (List (K × V))) (is : all ≡ (take place.part parts ++ changed) ++ drop (place.part + 1) parts) where
    joined_all : joined all ≡ joined (take place.part parts) ++ (joined changed ++ joined (drop (place.part + 1) parts))
    joined_all =
        ap joined is ∙ flat_map-append (λ l. l) (take place.part parts ++ changed) (drop (place.part + 1) parts)
        ∙ ap (λ l. l ++ joined (drop (place.part + 1) parts)) (flat_map-append (λ l. l) (take place.part parts) changed)
        ∙ append_assoc (joined (take place.part parts)) (joined changed) (joined (drop (place.part + 1) parts))

    sizes_all : HaveSizes changed → HaveSizes all
    sizes_all sizes =
        let HasSize : List (K × V) → Type 0 = λ part. (0 < length part) × (length part ≤ PART_MAX) in
        subst HaveSizes (sym is) (All-append HasSize (take place.part parts ++ changed) (drop (place.part + 1) parts) (All-append HasSize (take place.part parts) changed (All-take HasSize place.part parts tree.sizes) sizes) (All-drop HasSize (place.part + 1) parts tree.sizes))

    module _ (value : V) (is_changed : joined changed ≡ take place.pair (get_or parts place.part []) ++ ((key, value) ∷ rest_behind (begins_with cmp key (drop place.pair (get_or parts place.part []))) (drop place.pair (get_or parts place.part [])))) where
      joined_with : joined all ≡ front_of ++ ((key, value) ∷ (rest_behind (begins_with cmp key here_of) here_of ++ later_of))
      unfolding front_of here_of later_of
      joined_with =
          let part = get_or parts place.part [] in
          let here = drop place.pair part in
          let rest = rest_behind (begins_with cmp key here) here in
          let later = joined (drop (place.part + 1) parts) in
          joined_all ∙ ap (λ l. joined (take place.part parts) ++ (l ++ later)) is_changed
          ∙ ap (λ l. joined (take place.part parts) ++ l) (append_assoc (take place.pair part) ((key, value) ∷ rest) later)
          ∙ sym (append_assoc (joined (take place.part parts)) (take place.pair part) ((key, value) ∷ (rest ++ later)))

      pub list_with : joined all ≡ with_pair cmp (joined parts) key value
      list_with = joined_with ∙ sym (with_pair_split order key (joined parts) front_of here_of later_of split_of value)

      pub tree_with : HaveSizes changed → IsTree cmp all
      tree_with sizes = record {
        ascends = subst (Ascends cmp) (sym joined_with) (Ascends-from_rises cmp _ (with_rises order key (joined parts) front_of here_of later_of split_of value));
        sizes = sizes_all sizes;
      }

      pub length_with : length (joined all) ≡ cond (begins_with cmp key (drop place.pair (get_or parts place.part []))) (length (joined parts)) (length (joined parts) + 1)
      unfolding front_of here_of later_of
      length_with =
          let here = drop place.pair (get_or parts place.part []) in
          let b = begins_with cmp key here in
          ap length joined_with ∙ counts_with front_of here_of later_of (key, value) b (begins_some cmp key here)
          ∙ sym (ap (λ (l : List (K × V)). cond b (length l) (length l + 1)) split_of.is)

    module _ (is_changed : joined changed ≡ take place.pair (get_or parts place.part []) ++ drop (place.pair + 1) (get_or parts place.part [])) (there : begins_with cmp key (drop place.pair (get_or parts place.part [])) ≡ true) where
      joined_without : joined all ≡ front_of ++ (rest_behind true here_of ++ later_of)
      unfolding front_of here_of later_of
      joined_without =
          let part = get_or parts place.part [] in
          let rest = rest_behind true (drop place.pair part) in
          let later = joined (drop (place.part + 1) parts) in
          joined_all ∙ ap (λ l. joined (take place.part parts) ++ (l ++ later)) (is_changed ∙ ap (λ l. take place.pair part ++ l) (drop_next place.pair part))
          ∙ ap (λ l. joined (take place.part parts) ++ l) (append_assoc (take place.pair part) rest later)
          ∙ sym (append_assoc (joined (take place.part parts)) (take place.pair part) (rest ++ later))

      pub list_without : joined all ≡ without_key cmp (joined parts) key
      unfolding front_of here_of later_of
      list_without =
          joined_without ∙ ap (λ b. front_of ++ (rest_behind b here_of ++ later_of)) (sym there)
          ∙ sym (without_key_split order key (joined parts) front_of here_of later_of split_of)

      pub tree_without : HaveSizes changed → IsTree cmp all
      tree_without sizes = record {
        ascends = subst (Ascends cmp) (sym joined_without) (Ascends-from_rises cmp _ (without_rises order key (joined parts) front_of here_of later_of split_of true));
        sizes = sizes_all sizes;
      }

      pub length_without : length (joined all) + 1 ≡ length (joined parts)
      unfolding front_of here_of later_of
      length_without =
          ap (λ (l : List (K × V)). length l + 1) joined_without
          ∙ counts_without front_of here_of later_of (begins_some cmp key here_of there) ∙ sym (ap length split_of.is)

  -- nothing is taken out where the key isn't there
  pub without_missing : begins_with cmp key (drop place.pair (get_or parts place.part [])) ≡ false → without_key cmp (joined parts) key ≡ joined parts
  unfolding front_of here_of later_of
  without_missing missing =
      without_key_split order key (joined parts) front_of here_of later_of split_of
      ∙ ap (λ b. front_of ++ (rest_behind b here_of ++ later_of)) missing
      ∙ ap (λ l. front_of ++ (l ++ later_of)) (rest_not here_of) ∙ sym split_of.is

  -- a full last part, and a key behind it
  pub all_below_last : place.part + 1 ≡ length parts → length (get_or parts place.part []) ≤ place.pair → All (λ (pair : K × V). cmp pair.0 key ≡ Less) (joined parts)
  unfolding front_of here_of later_of
  all_below_last last behind_all =
      let part = get_or parts place.part [] in
      let no_more : here_of ≡ [] = drop_of_length-le part behind_all in
      let no_parts : later_of ≡ [] = ap joined (drop_of_length-le parts (omega arith)) in
      let all : joined parts ≡ front_of = split_of.is ∙ ap (λ l. front_of ++ (l ++ later_of)) no_more ∙ ap (λ (l : List (K × V)). front_of ++ l) no_parts ∙ append-nil front_of in
      All-from_recursion (λ (pair : K × V). cmp pair.0 key ≡ Less) (joined parts) (subst (AllByRecursion (λ (pair : K × V). cmp pair.0 key ≡ Less)) (sym all) split_of.before)

-- the pairs of a part with one more, and without one, by what was read
module _ {K V : Type 0} (cmp : K → K → Ordering) (key : K) (parts : List (List (K × V))) (place : Place) (part : List (K × V)) (part_is : part ≡ get_or parts place.part []) where
  pub changed_with : (value : V) (b : Bool) → b ≡ begins_with cmp key (drop place.pair part) → (next : ℕ) → next ≡ cond b (place.pair + 1) place.pair → (pair : K × V) → pair ≡ (key, value) → (pairs : List (K × V)) → pairs ≡ take place.pair part ++ (pair ∷ drop next part) → (changed : List (List (K × V))) → joined changed ≡ pairs → joined changed ≡ take place.pair (get_or parts place.part []) ++ ((key, value) ∷ rest_behind (begins_with cmp key (drop place.pair (get_or parts place.part []))) (drop place.pair (get_or parts place.part [])))
  changed_with value b b_is next next_is pair pair_is pairs pairs_are changed changed_is =
      changed_is ∙ pairs_are ∙ ap (λ p. take place.pair part ++ (p ∷ drop next part)) pair_is
      ∙ ap (λ l. take place.pair part ++ ((key, value) ∷ l)) (drop_behind b place.pair next part next_is ∙ ap (λ c. rest_behind c (drop place.pair part)) b_is)
      ∙ ap (λ l. take place.pair l ++ ((key, value) ∷ rest_behind (begins_with cmp key (drop place.pair l)) (drop place.pair l))) part_is

  pub changed_without : (pairs : List (K × V)) → pairs ≡ take place.pair part ++ drop (place.pair + 1) part → (changed : List (List (K × V))) → joined changed ≡ pairs → joined changed ≡ take place.pair (get_or parts place.part []) ++ drop (place.pair + 1) (get_or parts place.part [])
  changed_without pairs pairs_are changed changed_is = changed_is ∙ pairs_are ∙ ap (λ l. take place.pair l ++ drop (place.pair + 1) l) part_is

  pub begins_there : (b : Bool) → b ≡ begins_with cmp key (drop place.pair part) → b ≡ begins_with cmp key (drop place.pair (get_or parts place.part []))
  begins_there b b_is = b_is ∙ ap (λ l. begins_with cmp key (drop place.pair l)) part_is

  pub few_in_part : HaveSizes parts → place.part < length parts → length part ≤ PART_MAX
  few_in_part sizes in_range = omega (arith, ap length part_is, (sizes place.part [] in_range).1)

-- a part with one more pair is little too long at most
pub few_with : {A B : Type 0} (f : A → B) (items : List A) (part : List B) (item : B) (b : Bool) (n next : ℕ) → map f items ≡ take n part ++ (item ∷ drop next part) → next ≡ cond b (n + 1) n → n ≤ length part → length part ≤ PART_MAX → length items ≤ PART_MAX + 1
few_with f items part item b n next is next_is in_range few =
    let lengths = simp length-append at (ap length is) in
    let behind : n ≤ next = at_least b next_is in
    omega (arith, length-map items f, lengths, length-take-le n part in_range, length-drop next part)
  where
    at_least : (b : Bool) → next ≡ cond b (n + 1) n → n ≤ next
    at_least true e = omega arith
    at_least false e = omega arith

pub few_without : {A B : Type 0} (f : A → B) (items : List A) (part : List B) (n : ℕ) → map f items ≡ take n part ++ drop (n + 1) part → n < length part → length part ≤ PART_MAX → length items ≤ PART_MAX + 1
few_without f items part n is in_range few =
    let lengths = simp length-append at (ap length is) in
    omega (arith, length-map items f, lengths, length-take-le n part (omega arith), length-drop (n + 1) part)
