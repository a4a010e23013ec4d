-- How aliases are kept: by place, by name and by key. No public clause names any of this.
use Rattle.std.specs.Prelude.{◌≡◌, ℕ, List, map, filter, not, All}
use Rattle.std.specs.Cmp.Lexicographic.{slice_cmp}
use Rattle.std.specs.Ordering.{nat_cmp}
use Rattle.persist_map.specs.Pairs.{value_at}
use Rattle.persist_map.specs.Groups.{IsIndexOf}
use Rattle.alias_map.specs.declared.rows.AliasRow.{AliasRow}
use Rattle.alias_map.specs.Aliases.{names_key, row_named, AreAliases}

-- the rows of some pairs, each a place and a row
abbrev pub rows_in : List (ℕ × AliasRow) → List AliasRow
rows_in pairs = map (λ pair. pair.1) pairs

-- the aliases that name other keys
abbrev pub of_others : List ℕ → List AliasRow → List AliasRow
of_others key rows = filter (λ row. not (names_key key row)) rows

-- the rows stand at the places of their making, and are found by their names and by their keys
pub record AreKept (rows : List (ℕ × AliasRow)) (by_name : List (List ℕ × AliasRow)) (by_key : List (List ℕ × List (ℕ × AliasRow))) : Type 0 where
  pub placed : All (λ pair. pair.0 ≡ pair.1.born) rows
  pub aliases : AreAliases (rows_in rows)
  pub named : (name : List ℕ) → value_at (slice_cmp nat_cmp) by_name name ≡ row_named (rows_in rows) name
  pub keyed : IsIndexOf (slice_cmp nat_cmp) names_key rows by_key
