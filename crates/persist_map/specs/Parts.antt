-- How a map is kept: its pairs in parts of at most 1,024. No public clause names any of this.
use Rattle.std.specs.Prelude.{◌≡◌, ℕ, ◌+◌, ◌<◌, ◌≤◌, List, [], ◌∷◌, Bool, true, false, length, take, drop, All, slice_index_or, Option, Some, None, if◌then◌else◌}
use Rattle.std.specs.List.{flat_map, AllWithin}
use Rattle.std.specs.declared.cmp.Ordering.{Ordering}
use Rattle.std.specs.declared.cmp.Ordering.TheVariants.{Less, Greater}
use Rattle.std.specs.Ordering.{is_eq, is_gt}
use Rattle.persist_map.specs.declared.parts.TheConstants.{PART_MAX}
use Rattle.persist_map.specs.declared.places.Place.{Place}
use Rattle.persist_map.specs.Pairs.{Ascends, is_below}

-- the lists, one after another
abbrev pub joined : {A : Type 0} → List (List A) → List A
joined lists = flat_map (λ list. list) lists

-- the first n items pass the test, and no other does
pub record IsCut {A : Type 0} (passes : A → Bool) (items : List A) (n : ℕ) : Type 0 where
  pub in_range : n ≤ length items
  pub front : AllWithin (λ item. passes item ≡ true) items 0 n
  pub back : AllWithin (λ item. passes item ≡ false) items n (length items)

-- no part is empty, and none is too long
abbrev pub HaveSizes : {A : Type 0} → List (List A) → Type 0
HaveSizes parts = All (λ part. (0 < length part) × (length part ≤ PART_MAX)) parts

module _ {K V : Type 0} (cmp : K → K → Ordering) where
  pub record IsTree (parts : List (List (K × V))) : Type 0 where
    pub ascends : Ascends cmp (joined parts)
    pub sizes : HaveSizes parts

  -- the first key is above the key
  abbrev pub begins_above : K → List (K × V) → Bool
  begins_above key [] = false
  begins_above key (pair ∷ pairs) = is_gt (cmp pair.0 key)

  -- the first key is the key
  abbrev pub begins_with : K → List (K × V) → Bool
  begins_with key [] = false
  begins_with key (pair ∷ pairs) = is_eq (cmp pair.0 key)

  -- the value of the first pair, where that has the key
  abbrev pub first_value : K → List (K × V) → Option V
  first_value key [] = None
  first_value key (pair ∷ pairs) = if is_eq (cmp pair.0 key) then Some pair.1 else None

  -- the key's place: smaller keys before it, none behind it, and greater ones in the parts behind its part
  pub record IsPlace (key : K) (parts : List (List (K × V))) (place : Place) : Type 0 where
    pub part_in_range : place.part < length parts
    pub before : All (λ pair. cmp pair.0 key ≡ Less) (joined (take place.part parts))
    pub cut : IsCut (is_below cmp key) (slice_index_or parts place.part []) place.pair
    pub behind : All (λ pair. cmp pair.0 key ≡ Greater) (joined (drop (place.part + 1) parts))
