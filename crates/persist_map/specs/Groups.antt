-- Values in groups, by a key and by a place. A map of maps, as the list of its pairs, each a key and the pairs of its group.
use Rattle.std.specs.Prelude.{◌≡◌, ℕ, ◌<◌, List, [], Bool, filter, length, All, if◌then◌else◌, Option}
use Rattle.std.specs.Option.{unwrap_or}
use Rattle.std.specs.declared.cmp.Ordering.{Ordering}
use Rattle.std.specs.Ordering.{is_eq, nat_cmp}
use Rattle.kms_names.specs.Place.{is_behind}
use Rattle.persist_map.specs.Pairs.{value_at, with_pair, without_key}

-- no group is empty
abbrev pub HaveSome : {K V : Type 0} → List (K × List (ℕ × V)) → Type 0
HaveSome groups = All (λ group. 0 < length group.1) groups

-- the pairs that were placed behind a place, or all
abbrev pub pairs_behind : {V : Type 0} → List (ℕ × V) → Option ℕ → List (ℕ × V)
pairs_behind pairs after = filter (λ pair. is_behind after pair.0) pairs

module _ {K V : Type 0} (cmp : K → K → Ordering) where
  -- the group of a key: pairs of a place and a value, in ascending order of the places; none where the key has no group
  abbrev pub group_of : List (K × List (ℕ × V)) → K → List (ℕ × V)
  group_of groups key = unwrap_or (value_at cmp groups key) []

  -- the group of another key, where a value is put at a place of a key's group
  abbrev pub group_with : List (K × List (ℕ × V)) → K → ℕ → V → K → List (ℕ × V)
  group_with groups key place value other = if is_eq (cmp key other) then with_pair nat_cmp (group_of groups other) place value else group_of groups other

  -- the group of another key, where the value at a place of a key's group is taken out
  abbrev pub group_without : List (K × List (ℕ × V)) → K → ℕ → K → List (ℕ × V)
  group_without groups key place other = if is_eq (cmp key other) then without_key nat_cmp (group_of groups other) place else group_of groups other

  -- the groups index these rows, each with its place: the group of a key has the rows that the test tells to be of that key
  abbrev pub IsIndexOf : (K → V → Bool) → List (ℕ × V) → List (K × List (ℕ × V)) → Type 0
  IsIndexOf is_of rows groups = (key : K) → group_of groups key ≡ filter (λ pair. is_of key pair.1) rows
