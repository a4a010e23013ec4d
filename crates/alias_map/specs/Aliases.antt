-- Aliases in order of making, as a plain list.
use Rattle.std.specs.Prelude.{◌≡◌, ◌≢◌, ℕ, ◌<◌, Bool, not, ◌&&◌, List, [], ◌∷◌, filter, find, Option, MatchOption, IsSome, All, AllPairs, if◌then◌else◌}
use Rattle.std.specs.List.{list_any}
use Rattle.std.specs.Str.{bytes_eq}
use Rattle.kms_names.specs.Place.{is_behind}
use Rattle.alias_map.specs.declared.rows.AliasRow.{AliasRow}

abbrev pub has_name : List ℕ → AliasRow → Bool
has_name name row = bytes_eq row.name name

abbrev pub names_key : List ℕ → AliasRow → Bool
names_key key row = bytes_eq row.key key

-- the first alias of a name
abbrev pub row_named : List AliasRow → List ℕ → Option AliasRow
row_named rows name = find (has_name name) rows

-- the first that was made behind a place
abbrev pub row_after : List AliasRow → Option ℕ → Option AliasRow
row_after rows after = find (λ (row : AliasRow). is_behind after row.born) rows

-- the first of a key that was made behind a place
abbrev pub row_of_key : List AliasRow → List ℕ → Option ℕ → Option AliasRow
row_of_key rows key after = find (λ row. names_key key row && is_behind after row.born) rows

-- a row in the place of the first of its name, or behind all where none has it
abbrev pub with_row : List AliasRow → AliasRow → List AliasRow
with_row [] row = row ∷ []
with_row (first ∷ rest) row = if has_name row.name first then row ∷ rest else first ∷ with_row rest row

-- the aliases of all other names
abbrev pub without : List AliasRow → List ℕ → List AliasRow
without rows name = filter (λ row. not (has_name name row)) rows

-- an alias names one of the keys
abbrev pub names_any : List (List ℕ) → AliasRow → Bool
names_any keys row = list_any (λ key. names_key key row) keys

-- the aliases that name none of the keys
abbrev pub without_keys : List AliasRow → List (List ℕ) → List AliasRow
without_keys rows keys = filter (λ row. not (names_any keys row)) rows

-- each alias was made before this place
abbrev pub AreBefore : List AliasRow → ℕ → Type 0
AreBefore rows place = All (λ (row : AliasRow). row.born < place) rows

-- a row may be put: an alias of its name has its birth and making, or there is none and it is born behind all
abbrev pub MayPut : List AliasRow → AliasRow → Type 0
MayPut rows row = MatchOption (row_named rows row.name) (AreBefore rows row.born) (λ old. (old.born ≡ row.born) × (old.made ≡ row.made))

-- an alias has the name
abbrev pub IsThere : List AliasRow → List ℕ → Type 0
IsThere rows name = IsSome (row_named rows name)

-- no two aliases have one name, and each was made before the later ones
abbrev pub AreAliases : List AliasRow → Type 0
AreAliases rows = AllPairs (λ (p q : AliasRow). p.name ≢ q.name) rows × AllPairs (λ (p q : AliasRow). p.born < q.born) rows
