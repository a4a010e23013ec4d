-- What a look-up finds among the rows of a part.
use Rattle.std.proofs.Common.{◌≡◌, Bor, ℕ, Bool, true, false, ◌&&◌, List, [], ◌∷◌, length, filter, find, Option, None, Some, refl, ap, ◌∙◌, sym}
use Rattle.std.specs.Prelude.{slice_get}
use Rattle.std.specs.Option.{option_map}
use Rattle.std.proofs.lemmas.List.{length-map}
use Rattle.std.proofs.lemmas.List.Elements.{recursion_from_All}
use Rattle.kms_names.specs.Place.{is_behind}
use Rattle.kms_names.proofs.Behind.{find_in_filter, first_in_filter}
use Rattle.persist_map.specs.Groups.{pairs_behind}
use Rattle.grant_table.specs.declared.rows.GrantRow.{GrantRow}
use Rattle.grant_table.specs.Tables.{rows_of, AreAtBirth}
use Rattle.grant_table.proofs.Lists.{agree_everywhere, find_alike, every_weaker, map_filter, map_find}

abbrev Pairs : Type 0
Pairs = List (ℕ × GrantRow)

and_turned : (a b : Bool) → (a && b) ≡ (b && a)
and_turned true true = refl
and_turned true false = refl
and_turned false true = refl
and_turned false false = refl

within : (a b : Bool) → (a ≡ true → b ≡ true) → (a && b) ≡ a
within true b h = h refl
within false b h = refl

-- the first of the rows of a part that passes a test which only rows of the part pass
pub first_found : (test part : GrantRow → Bool) → ((row : GrantRow) → test row ≡ true → part row ≡ true) → (rows : List GrantRow) (pairs : Pairs) → rows_of pairs ≡ filter part rows → (o : Option (ℕ × GrantRow)) → o ≡ find (λ pair. test pair.1) pairs → option_map (λ (pair : ℕ × GrantRow). pair.1) o ≡ find test rows
first_found test part only rows pairs are o is =
    ap (option_map (λ (pair : ℕ × GrantRow). pair.1)) is ∙ map_find (λ (pair : ℕ × GrantRow). pair.1) test pairs
    ∙ ap (find test) are ∙ find_in_filter part test rows
    ∙ find_alike (λ row. test row && part row) test rows (agree_everywhere (λ row. test row && part row) test (λ row. within (test row) (part row) (only row)) rows)

-- the first of the rows of a part that were made behind a place
module _ (part : GrantRow → Bool) (pairs : Pairs) (places : AreAtBirth pairs) (after : Option ℕ) where
  by_birth : (pair : ℕ × GrantRow) → pair.0 ≡ pair.1.born → (is_behind after pair.0 && part pair.1) ≡ (part pair.1 && is_behind after pair.1.born)
  by_birth pair e = and_turned (is_behind after pair.0) (part pair.1) ∙ ap (λ n. part pair.1 && is_behind after n) e

  pub first_behind : (found : Pairs) → found ≡ pairs_behind (filter (λ (pair : ℕ × GrantRow). part pair.1) pairs) after → option_map (λ (pair : ℕ × GrantRow). pair.1) (slice_get found 0) ≡ find (λ row. part row && is_behind after row.born) (rows_of pairs)
  first_behind found is =
      ap (λ (l : Pairs). option_map (λ (pair : ℕ × GrantRow). pair.1) (slice_get l 0)) is
      ∙ ap (option_map (λ (pair : ℕ × GrantRow). pair.1))
      (first_in_filter (λ (pair : ℕ × GrantRow). is_behind after pair.0) (filter (λ pair. part pair.1) pairs)
      ∙ find_in_filter (λ (pair : ℕ × GrantRow). part pair.1) (λ pair. is_behind after pair.0) pairs
      ∙ find_alike (λ (pair : ℕ × GrantRow). is_behind after pair.0 && part pair.1) (λ pair. part pair.1 && is_behind after pair.1.born) pairs
      (every_weaker (λ (pair : ℕ × GrantRow). pair.0 ≡ pair.1.born) (λ pair. (is_behind after pair.0 && part pair.1) ≡ (part pair.1 && is_behind after pair.1.born)) by_birth pairs (recursion_from_All (λ (pair : ℕ × GrantRow). pair.0 ≡ pair.1.born) pairs places)))
      ∙ map_find (λ (pair : ℕ × GrantRow). pair.1) (λ row. part row && is_behind after row.born) pairs

-- how many rows of a part there are
pub number_of : (part : GrantRow → Bool) (pairs : Pairs) → length (filter (λ (pair : ℕ × GrantRow). part pair.1) pairs) ≡ length (filter part (rows_of pairs))
number_of part pairs =
    sym (length-map (filter (λ (pair : ℕ × GrantRow). part pair.1) pairs) (λ (pair : ℕ × GrantRow). pair.1)) ∙ ap length (map_filter (λ (pair : ℕ × GrantRow). pair.1) part pairs)

-- what is in front of what was found
pub first_of : (found rest : Pairs) (pair : ℕ × GrantRow) → found ≡ pair ∷ rest → Some pair.1 ≡ option_map (λ (pair : ℕ × GrantRow). pair.1) (slice_get found 0)
first_of found rest pair is = sym (ap (λ (l : Pairs). option_map (λ (pair : ℕ × GrantRow). pair.1) (slice_get l 0)) is)

pub first_of_none : (found : Pairs) → found ≡ [] → None ≡ option_map (λ (pair : ℕ × GrantRow). pair.1) (slice_get found 0)
first_of_none found is = sym (ap (λ (l : Pairs). option_map (λ (pair : ℕ × GrantRow). pair.1) (slice_get l 0)) is)

pub and_first : (a b : Bool) → (a && b) ≡ true → a ≡ true
and_first true b e = refl
and_first false b e = e

-- what an iterator's item shows
abbrev pub seen : Bor ℕ × Bor GrantRow → ℕ × GrantRow
seen item = (item.0.now, item.1.now)

abbrev pub row_seen : Bor ℕ × Bor GrantRow → GrantRow
row_seen item = item.1.now

pub first_seen : (test part : GrantRow → Bool) → ((row : GrantRow) → test row ≡ true → part row ≡ true) → (rows : List GrantRow) (pairs : Pairs) → rows_of pairs ≡ filter part rows → (r : Option (Bor ℕ × Bor GrantRow)) → option_map seen r ≡ find (λ pair. test pair.1) pairs → option_map row_seen r ≡ find test rows
first_seen test part only rows pairs are None is = first_found test part only rows pairs are None is
first_seen test part only rows pairs are (Some item) is = first_found test part only rows pairs are (Some (seen item)) is

-- tests that only the rows of a key and a grantee pass
pub only_grantee : (of_key of_grantee rest : Bool) → (of_key && (of_grantee && rest)) ≡ true → (of_key && of_grantee) ≡ true
only_grantee true true rest e = refl
only_grantee true false rest e = absurd (cc)
only_grantee false b rest e = absurd (cc)

pub only_named : (of_key named of_grantee rest : Bool) → (of_key && (named && (of_grantee && rest))) ≡ true → (of_key && of_grantee) ≡ true
only_named true true b rest e = only_grantee true b rest e
only_named true false b rest e = absurd (cc)
only_named false named b rest e = absurd (cc)
