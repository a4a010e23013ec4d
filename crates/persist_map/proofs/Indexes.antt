-- Groups that index rows, after a row was put or taken out.
use Rattle.std.proofs.Common.{◌≡◌, ℕ, ◌<◌, Bool, true, false, cond, List, [], ◌∷◌, ◌++◌, filter, Some, None, refl, sym, ap, ◌∙◌}
use Rattle.std.proofs.lemmas.Cmp.{nat_cmp_total}
use Rattle.std.specs.Cmp.{nat_cmp_is}
use Rattle.std.specs.List.{AllByRecursion}
use Rattle.std.specs.declared.cmp.Ordering.{Ordering}
use Rattle.std.specs.declared.cmp.Ordering.TheVariants.{Less}
use Rattle.std.specs.Ordering.{is_eq, nat_cmp}
use Rattle.persist_map.specs.Pairs.{Ascends, has_key, value_at, with_pair, without_key}
use Rattle.persist_map.specs.Groups.{group_of, group_with, group_without, IsIndexOf}
use Rattle.persist_map.proofs.Edits.{with_pair_behind}
use Rattle.persist_map.proofs.Filters.{filter_with_pair, filter_with_other, filter_without_key, none_has_key, none_found, without_absent, passed_apart}
use Rattle.persist_map.proofs.Orders.{Rises-from_ascends, every_weaker}

module _ {K V : Type 0} (cmp : K → K → Ordering) (is_of : K → V → Bool) where
  -- the row is of this key alone
  abbrev pub IsOf : V → K → Type 0
  IsOf row key = (other : K) → is_of other row ≡ is_eq (cmp key other)

  -- the row is of no key
  abbrev pub IsOfNone : V → Type 0
  IsOfNone row = (other : K) → is_of other row ≡ false

  -- the rows of a key
  abbrev rows_of : K → List (ℕ × V) → List (ℕ × V)
  rows_of key rows = filter (λ row. is_of key row.1) rows

  module _ (rows : List (ℕ × V)) (groups : List (K × List (ℕ × V))) (place : ℕ) (ascends : Ascends nat_cmp rows) (index : IsIndexOf cmp is_of rows groups) where
    -- a place where no row of the key stands: there is no row, or one that isn't of the key
    put_apart : (other : K) (row : V) → is_of other row ≡ false → without_key nat_cmp (rows_of other rows) place ≡ rows_of other rows → group_of cmp groups other ≡ rows_of other (with_pair nat_cmp rows place row)
    put_apart other row out same = index other ∙ sym (filter_with_other nat_cmp_total place (λ pair. is_of other pair.1) rows row (Rises-from_ascends nat_cmp rows ascends) out ∙ same)

    no_row : (other : K) → value_at nat_cmp rows place ≡ None → without_key nat_cmp (rows_of other rows) place ≡ rows_of other rows
    no_row other none = sym (filter_without_key nat_cmp_total place (λ pair. is_of other pair.1) rows) ∙ ap (rows_of other) (without_absent nat_cmp_total place rows (none_has_key nat_cmp_total place rows none))

    other_row : (other : K) (old : V) → value_at nat_cmp rows place ≡ Some old → is_of other old ≡ false → without_key nat_cmp (rows_of other rows) place ≡ rows_of other rows
    other_row other old at out = without_absent nat_cmp_total place (rows_of other rows) (passed_apart nat_cmp_total place (is_of other) rows old (Rises-from_ascends nat_cmp rows ascends) at out)

    module _ (changed : List (K × List (ℕ × V))) (key : K) where
      put_so : (row : V) → IsOf row key → ((other : K) → group_of cmp changed other ≡ group_with cmp groups key place row other) → ((other : K) → is_of other row ≡ false → without_key nat_cmp (rows_of other rows) place ≡ rows_of other rows) → IsIndexOf cmp is_of (with_pair nat_cmp rows place row) changed
      put_so row of_key is apart other = is other ∙ by_test (is_eq (cmp key other)) refl
        where
          by_test : (b : Bool) → is_eq (cmp key other) ≡ b → group_with cmp groups key place row other ≡ rows_of other (with_pair nat_cmp rows place row)
          by_test true e =
              ap (λ b. cond b (with_pair nat_cmp (group_of cmp groups other) place row) (group_of cmp groups other)) e
              ∙ ap (λ l. with_pair nat_cmp l place row) (index other)
              ∙ sym (filter_with_pair nat_cmp_total place (λ pair. is_of other pair.1) rows row (of_key other ∙ e))
          by_test false e =
              ap (λ b. cond b (with_pair nat_cmp (group_of cmp groups other) place row) (group_of cmp groups other)) e
              ∙ put_apart other row (of_key other ∙ e) (apart other (of_key other ∙ e))

      -- a row where none stood
      pub index_with : (row : V) → IsOf row key → value_at nat_cmp rows place ≡ None → ((other : K) → group_of cmp changed other ≡ group_with cmp groups key place row other) → IsIndexOf cmp is_of (with_pair nat_cmp rows place row) changed
      index_with row of_key none is = put_so row of_key is (λ other out. no_row other none)

      -- a row in place of one of the same key
      pub index_over : (row old : V) → IsOf row key → value_at nat_cmp rows place ≡ Some old → IsOf old key → ((other : K) → group_of cmp changed other ≡ group_with cmp groups key place row other) → IsIndexOf cmp is_of (with_pair nat_cmp rows place row) changed
      index_over row old of_key at old_of_key is = put_so row of_key is (λ other out. other_row other old at (old_of_key other ∙ sym (of_key other) ∙ out))

      -- a row less
      pub index_without : (old : V) → value_at nat_cmp rows place ≡ Some old → IsOf old key → ((other : K) → group_of cmp changed other ≡ group_without cmp groups key place other) → IsIndexOf cmp is_of (without_key nat_cmp rows place) changed
      index_without old at of_key is other = is other ∙ by_test (is_eq (cmp key other)) refl ∙ sym (filter_without_key nat_cmp_total place (λ pair. is_of other pair.1) rows)
        where
          by_test : (b : Bool) → is_eq (cmp key other) ≡ b → group_without cmp groups key place other ≡ without_key nat_cmp (rows_of other rows) place
          by_test true e =
              ap (λ b. cond b (without_key nat_cmp (group_of cmp groups other) place) (group_of cmp groups other)) e
              ∙ ap (λ l. without_key nat_cmp l place) (index other)
          by_test false e =
              ap (λ b. cond b (without_key nat_cmp (group_of cmp groups other) place) (group_of cmp groups other)) e
              ∙ index other ∙ sym (other_row other old at (of_key other ∙ e))

    -- a row of no key where none stood
    pub index_with_apart : (row : V) → IsOfNone row → value_at nat_cmp rows place ≡ None → IsIndexOf cmp is_of (with_pair nat_cmp rows place row) groups
    index_with_apart row of_none none other = put_apart other row (of_none other) (no_row other none)

    -- a row of no key less
    pub index_without_apart : (old : V) → value_at nat_cmp rows place ≡ Some old → IsOfNone old → IsIndexOf cmp is_of (without_key nat_cmp rows place) groups
    index_without_apart old at of_none other = index other ∙ sym (filter_without_key nat_cmp_total place (λ pair. is_of other pair.1) rows ∙ other_row other old at (of_none other))

-- there is no row at a place that is behind all rows
pub none_behind : {V : Type 0} (rows : List (ℕ × V)) (place : ℕ) → AllByRecursion (λ (row : ℕ × V). row.0 < place) rows → value_at nat_cmp rows place ≡ None
none_behind {V} rows place before = none_found nat_cmp_total place rows (every_weaker nat_cmp (λ (row : ℕ × V). row.0 < place) (λ row. has_key nat_cmp place row ≡ false) (λ row less. ap is_eq (sym (nat_cmp_is row.0 place Less less))) rows before)

-- a row behind all others
pub with_row_behind : {V : Type 0} (rows : List (ℕ × V)) (place : ℕ) (row : V) → AllByRecursion (λ (row : ℕ × V). row.0 < place) rows → with_pair nat_cmp rows place row ≡ rows ++ ((place, row) ∷ [])
with_row_behind {V} rows place row before = with_pair_behind nat_cmp rows place row (every_weaker nat_cmp (λ (row : ℕ × V). row.0 < place) (λ row. nat_cmp row.0 place ≡ Less) (λ row less. sym (nat_cmp_is row.0 place Less less)) rows before)
