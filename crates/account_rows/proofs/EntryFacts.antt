-- Entries with their places.
use Rattle.std.proofs.Common.{◌≡◌, ℕ, zero, suc, ◌+◌, ◌<◌, ◌≤◌, Bool, cond, List, [], ◌∷◌, ◌++◌, length, length-append, map, find, Option, Some, None, refl, sym, ap, ◌∙◌, subst, arith}
use Rattle.std.specs.Prelude.{slice_get}
use Rattle.std.specs.List.{AllByRecursion}
use Rattle.std.specs.Option.{option_map}
use Rattle.std.specs.Ordering.{nat_cmp, is_eq}
use Rattle.std.proofs.lemmas.List.{map-append}
use Rattle.persist_map.specs.Pairs.{has_key, value_at, with_pair}
use Rattle.persist_map.proofs.Indexes.{none_behind, with_row_behind}
use Rattle.account_rows.specs.declared.entries.Entry.{Entry}
use Rattle.account_rows.specs.Numbered.{entries_in, AreCounted}
use Rattle.account_rows.proofs.Places.{below_is_less, above_is_greater, itself}

entry_from : (pairs : List (ℕ × Entry)) (first : ℕ) → AreCounted first pairs → (k : ℕ) → value_at nat_cmp pairs (first + k) ≡ slice_get (entries_in pairs) k
entry_from [] first counted k = refl
entry_from (pair ∷ pairs) first counted zero = ap (λ o. option_map (λ (p : ℕ × Entry). p.1) (cond (is_eq o) (Some pair) (find (has_key nat_cmp (first + 0)) pairs))) (itself pair.0 (first + 0) (omega (arith, counted.0)))
entry_from (pair ∷ pairs) first counted (suc k) =
    ap (λ o. option_map (λ (p : ℕ × Entry). p.1) (cond (is_eq o) (Some pair) (find (has_key nat_cmp (first + suc k)) pairs))) (below_is_less pair.0 (first + suc k) (omega (arith, counted.0)))
    ∙ ap (value_at nat_cmp pairs) (shift first k)
    ∙ entry_from pairs (suc first) counted.1 k
  where
    shift : (a b : ℕ) → a + suc b ≡ suc a + b
    shift a b = omega arith

-- the entry at a place
pub entry_at : (pairs : List (ℕ × Entry)) → AreCounted 0 pairs → (place : ℕ) → value_at nat_cmp pairs place ≡ slice_get (entries_in pairs) place
entry_at pairs counted place = ap (value_at nat_cmp pairs) (from_zero place) ∙ entry_from pairs 0 counted place
  where
    from_zero : (n : ℕ) → n ≡ 0 + n
    from_zero n = omega arith

places_below : (pairs : List (ℕ × Entry)) (first last : ℕ) → AreCounted first pairs → first + length pairs ≤ last → AllByRecursion (λ (pair : ℕ × Entry). pair.0 < last) pairs
places_below [] first last counted le = tt
places_below (pair ∷ pairs) first last counted le = (omega (arith, counted.0, le), places_below pairs (suc first) last counted.1 (omega (arith, le)))

-- one entry more
pub entry_more : (pairs : List (ℕ × Entry)) → AreCounted 0 pairs → (place : ℕ) → place ≡ length pairs → (entry : Entry) → with_pair nat_cmp pairs place entry ≡ pairs ++ (place, entry) ∷ []
entry_more pairs counted place is entry = with_row_behind pairs place entry (places_below pairs 0 place counted (omega (arith, is)))

pub counted_more : (pairs : List (ℕ × Entry)) (first place : ℕ) (entry : Entry) → AreCounted first pairs → place ≡ first + length pairs → AreCounted first (pairs ++ (place, entry) ∷ [])
counted_more [] first place entry counted is = (omega (arith, is), tt)
counted_more (pair ∷ pairs) first place entry counted is = (counted.0, counted_more pairs (suc first) place entry counted.1 (omega (arith, is)))

pub entries_more : (pairs : List (ℕ × Entry)) (place : ℕ) (entry : Entry) → entries_in (pairs ++ (place, entry) ∷ []) ≡ entries_in pairs ++ entry ∷ []
entries_more pairs place entry = map-append (λ (pair : ℕ × Entry). pair.1) pairs ((place, entry) ∷ [])

pub as_many : (pairs : List (ℕ × Entry)) → length (entries_in pairs) ≡ length pairs
as_many [] = refl
as_many (pair ∷ pairs) = ap suc (as_many pairs)
