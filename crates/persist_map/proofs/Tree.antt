-- The parts of a map, and the place of a key among them.
use Rattle.std.proofs.Common.{◌≡◌, ℕ, zero, suc, ◌+◌, ◌-◌, ◌<◌, ◌≤◌, Bool, true, false, not, List, [], ◌∷◌, ◌++◌, length, get_or, take, drop, ltb, refl, sym, ap, ◌∙◌, subst, append_assoc, add-one, length-append, arith}
use Rattle.std.proofs.Math.Seq.{drop-cons}
use Rattle.persist_map.specs.declared.parts.TheConstants.{PART_MAX}
use Rattle.std.proofs.lemmas.Bool.{false≢true}
use Rattle.std.proofs.lemmas.List.{take-append-drop}
use Rattle.std.proofs.Math.ListN.{drop_of_length-le}
use borrow.Author.Tests.{ltb-true, ltb-false}
use Rattle.std.proofs.lemmas.List.Concat.{flat_map-append}
use Rattle.std.proofs.lemmas.List.Elements.{All-from_recursion, All-tail, All-head}
use Rattle.std.specs.Cmp.{IsTotalOrder}
use Rattle.std.specs.List.{AllByRecursion}
use Rattle.std.specs.List.Sorted.{IsPartitionedBy}
use Rattle.std.specs.declared.cmp.Ordering.{Ordering}
use Rattle.std.specs.declared.cmp.Ordering.TheVariants.{Less, Greater}
use Rattle.std.specs.Ordering.{is_lt, is_gt}
use Rattle.persist_map.specs.Pairs.{Ascends, is_below}
use Rattle.persist_map.specs.Parts.{IsCut, IsTree, IsPlace, HaveSizes, begins_above, joined}
use Rattle.persist_map.specs.declared.places.Place.{Place}
use Rattle.persist_map.proofs.Orders.{greater, greater_later, less_before, Precedes, Rises, Rises-from_ascends, Ascends-from_rises, every_front, every_back, every_weaker, rises_front, rises_back, rises_between}

not_true : (b : Bool) → not b ≡ true → b ≡ false
not_true true e = absurd (false≢true e)
not_true false e = refl

not_false : (b : Bool) → not b ≡ false → b ≡ true
not_false true e = refl
not_false false e = absurd (false≢true (sym e))

-- a list in three: what is before a place, the item there, and what is behind it
around_suc : {A : Type 0} (lists : List (List A)) (i : ℕ) → i < length lists → joined lists ≡ joined (take i lists) ++ (get_or lists i [] ++ joined (drop (suc i) lists))
around_suc [] i h = absurd (omega arith)
around_suc (list ∷ lists) zero h = refl
around_suc (list ∷ lists) (suc i) h = ap (λ later. list ++ later) (around_suc lists i (omega arith)) ∙ sym (append_assoc list (joined (take i lists)) (get_or lists i [] ++ joined (drop (suc i) lists)))

pub around : {A : Type 0} (lists : List (List A)) (i : ℕ) → i < length lists → joined lists ≡ joined (take i lists) ++ (get_or lists i [] ++ joined (drop (i + 1) lists))
around lists i h = rw add-one (around_suc lists i h)

-- what is behind a place begins with the item there
from_place : {A : Type 0} (lists : List (List A)) (i : ℕ) → i < length lists → joined (drop i lists) ≡ get_or lists i [] ++ joined (drop (i + 1) lists)
from_place lists i h = ap joined (drop-cons lists i [] h) ∙ (rw add-one refl)

module _ {K V : Type 0} {cmp : K → K → Ordering} (order : IsTotalOrder cmp) (key : K) where
  -- a part of a list of parts has what all pairs have
  every_part : (P : K × V → Type 0) (parts : List (List (K × V))) (i : ℕ) (d : List (K × V)) → i < length parts → AllByRecursion P (joined parts) → AllByRecursion P (get_or parts i d)
  every_part P [] i d h k = absurd (omega arith)
  every_part P (part ∷ parts) zero d h k = every_front cmp P part (joined parts) k
  every_part P (part ∷ parts) (suc i) d h k = every_part P parts i d (omega arith) (every_back cmp P part (joined parts) k)

  -- where the second part doesn't begin above the key, the first one doesn't
  begins_before : (part later : List (K × V)) → 0 < length later → ((pair : K × V) (pairs : List (K × V)) → part ≡ pair ∷ pairs → AllByRecursion (Precedes cmp pair) later) → not (begins_above cmp key later) ≡ true → not (begins_above cmp key part) ≡ true
  begins_before [] later some before later_not = refl
  begins_before (pair ∷ pairs) [] some before later_not = absurd (omega arith)
  begins_before (pair ∷ pairs) (next ∷ rest) some before later_not =
      ap (λ o. not (is_gt o)) (less_before order pair.0 next.0 key (before pair pairs refl).0 (not_true (is_gt (cmp next.0 key)) later_not))

  parted : (parts : List (List (K × V))) → Rises cmp (joined parts) → HaveSizes parts → IsPartitionedBy (λ part. not (begins_above cmp key part)) parts
  parted [] up sizes i j d le in_range later_not = absurd (omega arith)
  parted (part ∷ parts) up sizes zero zero d le in_range later_not = later_not
  parted (part ∷ parts) up sizes (suc i) zero d le in_range later_not = absurd (omega arith)
  parted (part ∷ parts) up sizes (suc i) (suc j) d le in_range later_not = parted parts (rises_back cmp part (joined parts) up) (All-tail (λ l. (0 < length l) × (length l ≤ PART_MAX)) part parts sizes) i j d (omega arith) (omega arith) later_not
  parted (part ∷ parts) up sizes zero (suc j) d le in_range later_not =
      begins_before part (get_or parts j d) (sizes (suc j) d in_range).0
      (λ pair pairs is. every_part (Precedes cmp pair) parts j d (omega arith) (rises_between cmp (pair ∷ pairs) (joined parts) (subst (λ l. Rises cmp (l ++ joined parts)) is up)).0)
      later_not

  pub parts_parted : (parts : List (List (K × V))) → IsTree cmp parts → IsPartitionedBy (λ part. not (begins_above cmp key part)) parts
  parts_parted parts tree = parted parts (Rises-from_ascends cmp (joined parts) tree.ascends) tree.sizes

  module _ (parts : List (List (K × V))) (tree : IsTree cmp parts) where
    -- the parts behind one that begins above the key have greater keys alone
    all_above : (i : ℕ) → ((d : List (K × V)) → i < length parts → begins_above cmp key (get_or parts i d) ≡ true) → AllByRecursion (λ pair. cmp pair.0 key ≡ Greater) (joined (drop i parts))
    all_above i above = from_there (ltb i (length parts)) refl
      where
        from_there : (b : Bool) → ltb i (length parts) ≡ b → AllByRecursion (λ pair. cmp pair.0 key ≡ Greater) (joined (drop i parts))
        from_there false e = subst (λ l. AllByRecursion (λ pair. cmp pair.0 key ≡ Greater) (joined l)) (sym (drop_of_length-le parts (ltb-false i (length parts) e))) tt
        from_there true e =
            let in_range = ltb-true i (length parts) e in
            let up = rises_back cmp (joined (take i parts)) (joined (drop i parts)) (subst (Rises cmp) (sym (ap joined (take-append-drop i parts)) ∙ flat_map-append (λ l. l) (take i parts) (drop i parts)) (Rises-from_ascends cmp (joined parts) tree.ascends)) in
            above_all (get_or parts i []) (joined (drop (i + 1) parts)) (above [] in_range) (subst (Rises cmp) (from_place parts i in_range) up) (from_place parts i in_range)
          where
            above_all : (part later : List (K × V)) → begins_above cmp key part ≡ true → Rises cmp (part ++ later) → joined (drop i parts) ≡ part ++ later → AllByRecursion (λ pair. cmp pair.0 key ≡ Greater) (joined (drop i parts))
            above_all [] later f up is = absurd (false≢true f)
            above_all (pair ∷ pairs) later f up is = subst (λ l. AllByRecursion (λ other. cmp other.0 key ≡ Greater) l) (sym is)
                (greater (cmp pair.0 key) f, every_weaker cmp (Precedes cmp pair) (λ other. cmp other.0 key ≡ Greater) (λ other before. greater_later order pair.0 other.0 key before (ap is_lt (greater (cmp pair.0 key) f))) (pairs ++ later) up.0)

    -- the parts before one that doesn't begin above the key have smaller keys alone
    all_below : (i : ℕ) → i < length parts → not (begins_above cmp key (get_or parts i [])) ≡ true → AllByRecursion (λ pair. cmp pair.0 key ≡ Less) (joined (take i parts))
    all_below i in_range starts = below_all (joined (take i parts)) (get_or parts i []) (joined (drop (i + 1) parts)) (tree.sizes i [] in_range).0 starts (subst (Rises cmp) (around parts i in_range) (Rises-from_ascends cmp (joined parts) tree.ascends))
      where
        below_all : (front part later : List (K × V)) → 0 < length part → not (begins_above cmp key part) ≡ true → Rises cmp (front ++ (part ++ later)) → AllByRecursion (λ pair. cmp pair.0 key ≡ Less) front
        below_all [] part later some f up = tt
        below_all (pair ∷ pairs) [] later some f up = absurd (omega arith)
        below_all (pair ∷ pairs) (first ∷ rest) later some f up =
            (less_before order pair.0 first.0 key (every_back cmp (Precedes cmp pair) pairs (first ∷ rest ++ later) up.0).0 (not_true (is_gt (cmp first.0 key)) f), below_all pairs (first ∷ rest) later some f up.1)

    -- a key's place, by the two searches
    pub place_found : (count : ℕ) → IsCut (λ part. not (begins_above cmp key part)) parts count → 0 < length parts → (place : Place) → place.part ≡ count - 1 → IsCut (is_below cmp key) (get_or parts place.part []) place.pair → IsPlace cmp key parts place
    place_found count found some place is cut = record {
      part_in_range = omega (arith, found.in_range);
      before = All-from_recursion (λ pair. cmp pair.0 key ≡ Less) (joined (take place.part parts)) (before (ltb 0 count) refl);
      cut = cut;
      behind = All-from_recursion (λ pair. cmp pair.0 key ≡ Greater) (joined (drop (place.part + 1) parts)) (all_above (place.part + 1) (λ d h. not_false (begins_above cmp key (get_or parts (place.part + 1) d)) (found.back (place.part + 1) d (omega arith) h)));
    }
      where
        before : (b : Bool) → ltb 0 count ≡ b → AllByRecursion (λ pair. cmp pair.0 key ≡ Less) (joined (take place.part parts))
        before true e = all_below place.part (omega (arith, found.in_range, ltb-true 0 count e)) (found.front place.part [] (omega arith) (omega (arith, ltb-true 0 count e)))
        before false e = subst (λ n. AllByRecursion (λ pair. cmp pair.0 key ≡ Less) (joined (take n parts))) {x = 0} {y = place.part} (omega (arith, ltb-false 0 count e)) tt

-- a tree has no more parts than pairs, and none has more pairs than all
pub length-joined : {A : Type 0} (parts : List (List A)) → HaveSizes parts → length parts ≤ length (joined parts)
length-joined [] sizes = omega arith
length-joined (part ∷ parts) sizes =
    rw length-append (omega (arith, (All-head (λ l. (0 < length l) × (length l ≤ PART_MAX)) part parts sizes).0, length-joined parts (All-tail (λ l. (0 < length l) × (length l ≤ PART_MAX)) part parts sizes)))

pub length-part : {A : Type 0} (parts : List (List A)) (i : ℕ) → i < length parts → length (get_or parts i []) ≤ length (joined parts)
length-part parts i in_range = rw (around parts i in_range) (rw (length-append, length-append) (omega arith))

-- a part of a tree ascends
pub part_ascends : {K V : Type 0} (cmp : K → K → Ordering) (parts : List (List (K × V))) (i : ℕ) → i < length parts → Ascends cmp (joined parts) → Ascends cmp (get_or parts i [])
part_ascends cmp parts i in_range up =
    let rises = subst (Rises cmp) (around parts i in_range) (Rises-from_ascends cmp (joined parts) up) in
    Ascends-from_rises cmp (get_or parts i []) (rises_front cmp (get_or parts i []) (joined (drop (i + 1) parts)) (rises_back cmp (joined (take i parts)) (get_or parts i [] ++ joined (drop (i + 1) parts)) rises))
