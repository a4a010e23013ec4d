-- The history of an account, and the rows that its replay makes.
use Rattle.std.specs.Prelude.{◌≡◌, ◌==◌, true, ℕ, ◌+◌, ◌≤◌, ◌<◌, List, [], ◌∷◌, length, drop, max, fold, find, Bool, ◌&&◌, nat_lt, nat_le, Option, Some, None, if◌then◌else◌, All, AllPairs}
use Rattle.kms_names.specs.Moment.{year_10000}
use Rattle.std.specs.Int.{from_be_bytes, w64}
use Rattle.std.specs.Str.{bytes_eq}
use Rattle.kms_names.specs.Place.{is_behind}
use Rattle.key_states.specs.declared.rows.KeyRow.{KeyRow}
use Rattle.alias_map.specs.declared.rows.AliasRow.{AliasRow}
use Rattle.grant_table.specs.declared.rows.GrantRow.{GrantRow}
use Rattle.resource_tags.specs.declared.tags.Tag.{Tag as TagValue}
use Rattle.resource_tags.specs.Tags.{with_tags}
use Rattle.account_rows.specs.declared.entries.Entry.{Entry}
use Rattle.account_rows.specs.declared.entries.What.{What}
use Rattle.account_rows.specs.declared.entries.What.TheVariants.{CreateKey, Tag, GrantAdd, House}
use Rattle.account_rows.specs.Sizes.{size_of, bytes_in}
use Rattle.account_rows.specs.Changes.{keys_after, wants_house}
use Rattle.account_rows.specs.AliasChanges.{aliases_after}
use Rattle.account_rows.specs.GrantChanges.{grants_after}

-- the number of entries, and the rows of keys, aliases and grants, each in order of making
pub record State : Type 0 where
  pub entries : ℕ
  pub keys : List KeyRow
  pub aliases : List AliasRow
  pub grants : List GrantRow

-- what an entry does
abbrev pub step : State → Entry → State
step state entry = record {
  entries = state.entries + 1;
  keys = keys_after state.entries entry.time entry.what state.keys;
  aliases = aliases_after state.entries entry.time entry.what state.keys state.aliases;
  grants = grants_after state.entries entry.time entry.what state.keys state.grants;
}

abbrev pub nothing_yet : State
nothing_yet = record { entries = 0; keys = []; aliases = []; grants = [] }

-- the entries one after another
abbrev pub replay : List Entry → State
replay history = fold step nothing_yet history

-- the time of the last entry, 0 where there is none
abbrev pub latest_of : List Entry → ℕ
latest_of history = fold (λ time entry. entry.time) 0 history

-- the moment of a request at a history: the clock's answer, or the last entry's time where the clock went back
abbrev pub moment_of : List Entry → ℕ → ℕ
moment_of history clock = max clock (latest_of history)

-- ---- limits

-- at most 1,000,000 entries and 268,435,456 bytes
abbrev pub most_entries : ℕ
most_entries = 1000000

abbrev pub most_bytes : ℕ
most_bytes = 268435456

-- there is room for one more entry that counts so many bytes
abbrev pub has_room : List Entry → ℕ → Bool
has_room history size = nat_lt (length history) most_entries && nat_le (bytes_in history + size) most_bytes

-- ---- housekeeping

-- the entry of housekeeping at a clock's answer: where some key is gone or due, and there is room for it
unfoldable pub housekeeping_of : List Entry → ℕ → Option Entry
housekeeping_of history clock =
    if wants_house (moment_of history clock) (replay history).keys && has_room history (size_of House)
    then Some (record { time = moment_of history clock; what = House }) else None

-- ---- looking keys up

-- the first row of an id
abbrev pub key_with : List KeyRow → List ℕ → Option KeyRow
key_with rows id = find (λ row. bytes_eq row.key id) rows

-- the first row that was made behind a place, or the first of all
abbrev pub key_behind : List KeyRow → Option ℕ → Option KeyRow
key_behind rows after = find (λ row. is_behind after row.born) rows

-- ---- what may be applied

-- the place that a key's id ends with, in six bytes
abbrev pub place_in : List ℕ → ℕ
place_in id = from_be_bytes w64 (0 ∷ 0 ∷ drop 10 id)

-- the place that a grant's id ends with, in six bytes
abbrev pub place_in_grant : List ℕ → ℕ
place_in_grant id = from_be_bytes w64 (0 ∷ 0 ∷ drop 26 id)

-- a key or grant that an entry makes has an id that ends with the entry's place
abbrev pub IsMadeHere : ℕ → What → Type 0
IsMadeHere place (CreateKey key kind description policy tags) = place_in key ≡ place
IsMadeHere place (GrantAdd grant key grantee retiring operations constraint name) = place_in_grant grant ≡ place
IsMadeHere place _ = Unit {0}

-- whether it has
abbrev pub is_made_here : ℕ → What → Bool
is_made_here place (CreateKey key kind description policy tags) = place_in key == place
is_made_here place (GrantAdd grant key grantee retiring operations constraint name) = place_in_grant grant == place
is_made_here place _ = true

-- the keys and grants that entries make from a place on have ids that end with their places
abbrev pub AreMadeFrom : ℕ → List Entry → Type 0
AreMadeFrom place [] = Unit {0}
AreMadeFrom place (entry ∷ more) = IsMadeHere place entry.what × AreMadeFrom (place + 1) more

-- the most tags that a key has
abbrev pub most_tags : ℕ
most_tags = 50

-- at most so many stand on a row, where there is one, once these were put
abbrev pub TagsFitOn : Option KeyRow → List TagValue → Type 0
TagsFitOn None tags = Unit {0}
TagsFitOn (Some row) tags = length (with_tags row.tags tags) ≤ most_tags

-- at most so many stand on the key of an entry behind it, where these are the keys before it
abbrev pub TagsFit : List KeyRow → What → Type 0
TagsFit keys (CreateKey key kind description policy tags) = length (with_tags [] tags) ≤ most_tags
TagsFit keys (Tag key tags) = TagsFitOn (key_with keys key) tags
TagsFit keys _ = Unit {0}

-- whether they are so few
abbrev pub tags_fit_on : Option KeyRow → List TagValue → Bool
tags_fit_on None tags = true
tags_fit_on (Some row) tags = nat_le (length (with_tags row.tags tags)) most_tags

abbrev pub tags_fit : List KeyRow → What → Bool
tags_fit keys (CreateKey key kind description policy tags) = nat_le (length (with_tags [] tags)) most_tags
tags_fit keys (Tag key tags) = tags_fit_on (key_with keys key) tags
tags_fit keys _ = true

-- an entry may come behind a history: its time is before the year 10000, there is room for it, and at most 50 tags of its
-- key stand behind it
pub record IsFitting (history : List Entry) (entry : Entry) : Type 0 where
  pub bound : entry.time < year_10000
  pub made : IsMadeHere (length history) entry.what
  pub tagged : TagsFit (replay history).keys entry.what
  pub few : length history < most_entries
  pub fits : bytes_in history + size_of entry.what ≤ most_bytes

-- a row of the first so many entries
pub record IsRowOf (place : ℕ) (row : KeyRow) : Type 0 where
  pub before : row.born < place
  pub named : place_in row.key ≡ row.born
  pub turned : row.on_demand ≤ place
  pub counted : length row.versions ≤ place
  pub some : 1 ≤ length row.versions

-- rows in order of making
pub record AreRows (place : ℕ) (rows : List KeyRow) : Type 0 where
  pub rise : AllPairs (λ (p q : KeyRow). p.born < q.born) rows
  pub each : All (IsRowOf place) rows

-- a grant of the first so many entries
pub record IsGrantOf (place : ℕ) (row : GrantRow) : Type 0 where
  pub before : row.born < place
  pub named : place_in_grant row.grant ≡ row.born
