-- Rows by their places, after one is added or taken out.
use Rattle.std.proofs.Common.{◌≡◌, ◌≢◌, ℕ, ◌<◌, Bool, true, false, not, cond, List, [], ◌∷◌, ◌++◌, get_or, None, Some, refl, ap, ◌∙◌, sym, subst, arith}
use Rattle.std.specs.Prelude.{AllPairs}
use Rattle.std.specs.Cmp.{nat_cmp_is}
use Rattle.std.specs.List.{AllByRecursion}
use Rattle.std.specs.Option.{option_map}
use Rattle.std.specs.Ordering.{nat_cmp, is_eq}
use Rattle.std.specs.declared.cmp.Ordering.TheVariants.{Less, Equal, Greater}
use Rattle.std.proofs.lemmas.List.{map-append, get_or-map, length-map}
use Rattle.std.proofs.lemmas.List.Elements.{recursion_from_All, All-push, All-filter}
use Rattle.std.proofs.lemmas.List.Quantifiers.{all_pairs_push}
use Rattle.std.proofs.lemmas.Option.{same_Some}
use Rattle.persist_map.specs.Pairs.{Ascends, value_at, with_pair, without_key}
use Rattle.persist_map.proofs.Indexes.{none_behind, with_row_behind}
use Rattle.grant_table.specs.declared.rows.GrantRow.{GrantRow}
use Rattle.grant_table.specs.Grants.{has_id, grant_with, without, MayAdd, AreGrants}
use Rattle.grant_table.specs.Tables.{rows_of, AreAtBirth}
use Rattle.grant_table.proofs.Lists.{bytes_apart, first_before, pairs_behind, every_weaker, filter_alike, find_alike, found_has, map_filter, map_find}

-- ---- numbers in order

less_is : (x y : ℕ) → x < y → nat_cmp x y ≡ Less
less_is x y lt = sym (nat_cmp_is x y Less lt)

equal_is : (x y : ℕ) → x ≡ y → nat_cmp x y ≡ Equal
equal_is x y e = sym (nat_cmp_is x y Equal e)

greater_is : (x y : ℕ) → y < x → nat_cmp x y ≡ Greater
greater_is x y lt = sym (nat_cmp_is x y Greater lt)

abbrev pub IsAtBirth : ℕ × GrantRow → Type 0
IsAtBirth pair = pair.0 ≡ pair.1.born

-- rows in order of making stand at ascending places
pub births_ascend : (pairs : List (ℕ × GrantRow)) → AreAtBirth pairs → AllPairs (λ (p q : GrantRow). p.born < q.born) (rows_of pairs) → Ascends nat_cmp pairs
births_ascend pairs places births i j d before within =
    let early = places i d (omega arith) in
    let late = places j d within in
    let rises = births i j d.1 before (omega (arith, length-map pairs (λ (pair : ℕ × GrantRow). pair.1))) in
    let row_early = get_or-map (λ (pair : ℕ × GrantRow). pair.1) pairs i d d.1 (omega arith) in
    let row_late = get_or-map (λ (pair : ℕ × GrantRow). pair.1) pairs j d d.1 within in
    let earlier : (get_or pairs i d).1.born < (get_or pairs j d).1.born = subst (λ (row : GrantRow). (get_or pairs i d).1.born < row.born) row_late (subst (λ (row : GrantRow). row.born < (get_or (rows_of pairs) j d.1).born) row_early rises) in
    less_is (get_or pairs i d).0 (get_or pairs j d).0 (omega arith)

-- ---- a row behind all others

module _ (row : GrantRow) where
  are_before : (pairs : List (ℕ × GrantRow)) → AllByRecursion IsAtBirth pairs → AllByRecursion (λ (old : GrantRow). old.born < row.born) (rows_of pairs) → AllByRecursion (λ (pair : ℕ × GrantRow). pair.0 < row.born) pairs
  are_before [] places below = tt
  are_before (pair ∷ pairs) places below = (let e = places.0 in let lt = below.0 in omega arith, are_before pairs places.1 below.1)

  module _ (pairs : List (ℕ × GrantRow)) (places : AreAtBirth pairs) (may : MayAdd (rows_of pairs) row) where
    all_before : AllByRecursion (λ (pair : ℕ × GrantRow). pair.0 < row.born) pairs
    all_before = are_before pairs (recursion_from_All IsAtBirth pairs places) (recursion_from_All (λ (old : GrantRow). old.born < row.born) (rows_of pairs) may.1)

    behind_all : with_pair nat_cmp pairs row.born row ≡ pairs ++ ((row.born, row) ∷ [])
    behind_all = with_row_behind pairs row.born row all_before

    -- its place is free
    pub place_free : value_at nat_cmp pairs row.born ≡ None
    place_free = none_behind pairs row.born all_before

    pub rows_with : rows_of (with_pair nat_cmp pairs row.born row) ≡ rows_of pairs ++ (row ∷ [])
    rows_with = ap rows_of behind_all ∙ map-append (λ (pair : ℕ × GrantRow). pair.1) pairs ((row.born, row) ∷ [])

    pub places_with : AreAtBirth (with_pair nat_cmp pairs row.born row)
    places_with = subst AreAtBirth (sym behind_all) (All-push IsAtBirth pairs (row.born, row) places refl)

    pub grants_with : AreGrants (rows_of pairs) → AreGrants (rows_of (with_pair nat_cmp pairs row.born row))
    grants_with grants =
        subst AreGrants (sym rows_with)
        (all_pairs_push (λ (p q : GrantRow). p.grant ≢ q.grant) (rows_of pairs) row grants.0 may.0, all_pairs_push (λ (p q : GrantRow). p.born < q.born) (rows_of pairs) row grants.1 may.1)

-- ---- a row that is there

module _ (row : GrantRow) where
  abbrev Agree : ℕ × GrantRow → Type 0
  Agree pair = is_eq (nat_cmp pair.0 row.born) ≡ has_id row.grant pair.1

  later_agree : (pairs : List (ℕ × GrantRow)) → AllByRecursion IsAtBirth pairs → AllByRecursion (λ (other : GrantRow). row.grant ≢ other.grant) (rows_of pairs) → AllByRecursion (λ (other : GrantRow). row.born < other.born) (rows_of pairs) → AllByRecursion Agree pairs
  later_agree [] places ids births = tt
  later_agree (pair ∷ pairs) places ids births = (
    ap is_eq (greater_is pair.0 row.born (let e = places.0 in let lt = births.0 in omega arith)) ∙ sym (bytes_apart pair.1.grant row.grant (λ e. ids.0 (sym e))),
    later_agree pairs places.1 ids.1 births.1,
  )

  -- its place and its id are its own
  agree : (pairs : List (ℕ × GrantRow)) → AllByRecursion IsAtBirth pairs → AreGrants (rows_of pairs) → grant_with (rows_of pairs) row.grant ≡ Some row → AllByRecursion Agree pairs
  agree [] places grants found = tt
  agree (pair ∷ pairs) places grants found = by_test (has_id row.grant pair.1) refl (agree pairs places.1)
    where
      ids : AllByRecursion (λ (other : GrantRow). pair.1.grant ≢ other.grant) (rows_of pairs)
      ids = first_before (λ (p q : GrantRow). p.grant ≢ q.grant) pair.1 (rows_of pairs) grants.0

      births : AllByRecursion (λ (other : GrantRow). pair.1.born < other.born) (rows_of pairs)
      births = first_before (λ (p q : GrantRow). p.born < q.born) pair.1 (rows_of pairs) grants.1

      later : AreGrants (rows_of pairs)
      later = (pairs_behind (λ (p q : GrantRow). p.grant ≢ q.grant) pair.1 (rows_of pairs) grants.0, pairs_behind (λ (p q : GrantRow). p.born < q.born) pair.1 (rows_of pairs) grants.1)

      tested : (b : Bool) → has_id row.grant pair.1 ≡ b → cond b (Some pair.1) (grant_with (rows_of pairs) row.grant) ≡ Some row
      tested b e = sym (ap (λ b. cond b (Some pair.1) (grant_with (rows_of pairs) row.grant)) e) ∙ found

      by_test : (b : Bool) → has_id row.grant pair.1 ≡ b → (AreGrants (rows_of pairs) → grant_with (rows_of pairs) row.grant ≡ Some row → AllByRecursion Agree pairs) → AllByRecursion Agree (pair ∷ pairs)
      by_test true e later_too =
          let same : pair.1 ≡ row = same_Some pair.1 row (tested true e) in (
            ap is_eq (equal_is pair.0 row.born (places.0 ∙ ap (λ (r : GrantRow). r.born) same)) ∙ sym e,
            later_agree pairs places.1 (subst (λ (r : GrantRow). AllByRecursion (λ (other : GrantRow). r.grant ≢ other.grant) (rows_of pairs)) same ids) (subst (λ (r : GrantRow). AllByRecursion (λ (other : GrantRow). r.born < other.born) (rows_of pairs)) same births),
          )
      by_test false e later_too =
          let rest : grant_with (rows_of pairs) row.grant ≡ Some row = tested false e in
          let lt : pair.1.born < row.born = found_has (has_id row.grant) (λ (other : GrantRow). pair.1.born < other.born) (rows_of pairs) row births rest in
          (ap is_eq (less_is pair.0 row.born (let e = places.0 in omega arith)) ∙ sym e, later_too later rest)

  module _ (pairs : List (ℕ × GrantRow)) (places : AreAtBirth pairs) (grants : AreGrants (rows_of pairs)) (found : grant_with (rows_of pairs) row.grant ≡ Some row) where
    all_agree : AllByRecursion Agree pairs
    all_agree = agree pairs (recursion_from_All IsAtBirth pairs places) grants found

    pub at_place : value_at nat_cmp pairs row.born ≡ Some row
    at_place =
        ap (option_map (λ (pair : ℕ × GrantRow). pair.1)) (find_alike (λ (pair : ℕ × GrantRow). is_eq (nat_cmp pair.0 row.born)) (λ pair. has_id row.grant pair.1) pairs all_agree)
        ∙ map_find (λ (pair : ℕ × GrantRow). pair.1) (has_id row.grant) pairs ∙ found

    pub rows_without : rows_of (without_key nat_cmp pairs row.born) ≡ without (rows_of pairs) row.grant
    rows_without =
        ap rows_of (filter_alike (λ (pair : ℕ × GrantRow). not (is_eq (nat_cmp pair.0 row.born))) (λ pair. not (has_id row.grant pair.1)) pairs
        (every_weaker Agree (λ (pair : ℕ × GrantRow). not (is_eq (nat_cmp pair.0 row.born)) ≡ not (has_id row.grant pair.1)) (λ pair e. ap not e) pairs all_agree))
        ∙ map_filter (λ (pair : ℕ × GrantRow). pair.1) (λ (row' : GrantRow). not (has_id row.grant row')) pairs

    pub places_without : AreAtBirth (without_key nat_cmp pairs row.born)
    places_without = All-filter (λ (pair : ℕ × GrantRow). not (is_eq (nat_cmp pair.0 row.born))) IsAtBirth pairs places
