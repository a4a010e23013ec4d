-- What a table of grants keeps: the rows by their places, and beside them what finds rows by a part of theirs. No public
-- clause names any of this.
use Rattle.std.specs.Prelude.{◌≡◌, ℕ, Bool, ◌&&◌, List, [], map, All, if◌then◌else◌}
use Rattle.std.specs.Option.{unwrap_or}
use Rattle.std.specs.Cmp.Lexicographic.{slice_cmp}
use Rattle.std.specs.Ordering.{nat_cmp}
use Rattle.std.specs.Str.{bytes_eq}
use Rattle.std.specs.declared.cmp.Ordering.{Ordering}
use Rattle.kms_names.specs.declared.principals.Principal.{Principal}
use Rattle.persist_map.specs.Pairs.{value_at}
use Rattle.persist_map.specs.Groups.{group_of, group_with, group_without, IsIndexOf}
use Rattle.grant_table.specs.declared.rows.GrantRow.{GrantRow}
use Rattle.grant_table.specs.Principals.{same_principal}
use Rattle.grant_table.specs.Grants.{is_of_key, has_retiring, grant_with, AreGrants}

-- the rows of pairs of a place and a row
abbrev pub rows_of : List (ℕ × GrantRow) → List GrantRow
rows_of pairs = map (λ pair. pair.1) pairs

-- each row stands at the place of its making
abbrev pub AreAtBirth : List (ℕ × GrantRow) → Type 0
AreAtBirth pairs = All (λ pair. pair.0 ≡ pair.1.born) pairs

-- the row is of the key and has the grantee
abbrev pub is_of_grantee : List ℕ → Principal → GrantRow → Bool
is_of_grantee key grantee row = is_of_key key row && same_principal row.grantee grantee

-- groups by grantee, of each key that has grants
abbrev pub Keys : Type 0
Keys = List (List ℕ × List (Principal × List (ℕ × GrantRow)))

-- the groups of a key
abbrev pub groups_at : Keys → List ℕ → List (Principal × List (ℕ × GrantRow))
groups_at keys key = unwrap_or (value_at (slice_cmp nat_cmp) keys key) []

module _ (cmp : Principal → Principal → Ordering) where
  -- the group of a key and a grantee
  abbrev pub grantee_group : Keys → List ℕ → Principal → List (ℕ × GrantRow)
  grantee_group keys key grantee = group_of cmp (groups_at keys key) grantee

  -- the same, where a row is added
  abbrev pub grantee_group_with : Keys → GrantRow → List ℕ → Principal → List (ℕ × GrantRow)
  grantee_group_with keys row key grantee = if bytes_eq row.key key then group_with cmp (groups_at keys key) row.grantee row.born row grantee else grantee_group keys key grantee

  -- the same, where a row is taken out
  abbrev pub grantee_group_without : Keys → GrantRow → List ℕ → Principal → List (ℕ × GrantRow)
  grantee_group_without keys row key grantee = if bytes_eq row.key key then group_without cmp (groups_at keys key) row.grantee row.born grantee else grantee_group keys key grantee

  -- the rows by place; those of each id, of each key, of each key and grantee, and of each retiring principal
  pub record AreTable (pairs : List (ℕ × GrantRow)) (by_id : List (List ℕ × GrantRow)) (by_key : List (List ℕ × List (ℕ × GrantRow))) (by_grantee : Keys) (by_retiring : List (Principal × List (ℕ × GrantRow))) : Type 0 where
    pub grants : AreGrants (rows_of pairs)
    pub places : AreAtBirth pairs
    pub ids : (grant : List ℕ) → value_at (slice_cmp nat_cmp) by_id grant ≡ grant_with (rows_of pairs) grant
    pub keys : IsIndexOf (slice_cmp nat_cmp) is_of_key pairs by_key
    pub grantees : (key : List ℕ) → IsIndexOf cmp (is_of_grantee key) pairs (groups_at by_grantee key)
    pub retiring : IsIndexOf cmp has_retiring pairs by_retiring
