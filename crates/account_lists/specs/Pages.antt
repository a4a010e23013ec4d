-- Parts of lists (AWS KMS API Reference, the members Limit, Marker, NextMarker and Truncated of ListKeys and its kin).
use Rattle.std.specs.Prelude.{◌≡◌, ℕ, ◌^◌, ◌<◌, ◌≤◌, List, ◌++◌, length, take, filter, nat_lt, if◌then◌else◌, Option, Some, None, option_map, Result, Ok, Err, AllPairs}
use Rattle.std.specs.List.{last_or}
use Rattle.kms_names.specs.Digits.{number_in}
use Rattle.kms_names.specs.Place.{is_behind}
use Rattle.serde_json.specs.Data.{string}
use Rattle.kms_json.specs.PageReplies.{marker_data}
use Rattle.kms_json.specs.declared.refusals.Refusal.{Refusal}
use Rattle.kms_json.specs.declared.refusals.Refusal.TheVariants as refusal

-- ---- the marker

abbrev pub behind_place : Option ℕ → Result (Option ℕ) Refusal
behind_place None = Err refusal.InvalidMarker
behind_place (Some place) = Ok (Some place)

-- the place behind which the part begins, where a marker is given: a number of 1 to 18 decimal digits
abbrev pub behind_marker : Option (List ℕ) → Result (Option ℕ) Refusal
behind_marker None = Ok None
behind_marker (Some text) = behind_place (number_in 18 text)

-- a text that a reply tells as the marker of a place is read as that place
abbrev pub MarkersReadBack : Type 0
MarkersReadBack = (place : ℕ) (text : List ℕ) → place < 10 ^ 18 → marker_data place ≡ string text → behind_marker (Some text) ≡ Ok (Some place)

-- ---- the part

-- the rows that were made behind a place, or all
abbrev pub rows_behind : {A : Type 0} → (A → ℕ) → Option ℕ → List A → List A
rows_behind born after rows = filter (λ row. is_behind after (born row)) rows

-- the place of the last of these rows, where more rows remain
abbrev pub next_of : {A : Type 0} → (A → ℕ) → ℕ → List A → Option ℕ
next_of born limit rows = if nat_lt limit (length rows) then option_map born (last_or None (take limit rows)) else None

-- at most so many of the rows that were made behind a place, and the marker of the next part
pub record Part (A : Type 0) : Type 0 where
  pub rows : List A
  pub next : Option ℕ

abbrev pub first_of : {A : Type 0} → (A → ℕ) → ℕ → List A → Part A
first_of born limit rows = record { rows = take limit rows; next = next_of born limit rows }

abbrev pub part_of : {A : Type 0} → (A → ℕ) → List A → ℕ → Option ℕ → Part A
part_of born rows limit after = first_of born limit (rows_behind born after rows)

-- ---- the law of parts

-- the parts of a list one after another, each behind the marker of the one before it, and all of their rows
pub data PartsFrom {A : Type 0} (born : A → ℕ) (rows : List A) (limit : ℕ) : Option ℕ → List A → Type 0 where
  last_part : {after : Option ℕ} → (part_of born rows limit after).next ≡ None → PartsFrom born rows limit after (part_of born rows limit after).rows
  one_more : {after : Option ℕ} {rest : List A} (place : ℕ) → (part_of born rows limit after).next ≡ Some place → PartsFrom born rows limit (Some place) rest
      → PartsFrom born rows limit after ((part_of born rows limit after).rows ++ rest)

-- where the rows stand in order of making, the parts, joined, are all rows behind the place where they begin
abbrev pub PartsMakeTheWhole : {A : Type 0} → (A → ℕ) → List A → Type 0
PartsMakeTheWhole {A} born rows =
    AllPairs (λ (p q : A). born p < born q) rows → (limit : ℕ) → 1 ≤ limit → (after : Option ℕ) (joined : List A) → PartsFrom born rows limit after joined → joined ≡ rows_behind born after rows
