-- The rows of keys by the places at which they were made, and the dates of housekeeping. No public clause names any of
-- this.
use Rattle.std.specs.Prelude.{◌≡◌, ℕ, ◌<◌, ◌==◌, nat_le, Bool, true, false, not, List, [], ◌∷◌, ◌++◌, map, filter, find, Option, Some, None, All, AllPairs, if◌then◌else◌}
use Rattle.std.specs.List.{flat_map, list_any}
use Rattle.std.specs.Str.{bytes_eq}
use Rattle.std.specs.Option.{option_map}
use Rattle.std.specs.declared.cmp.Ordering.{Ordering}
use Rattle.std.specs.Ordering.{nat_cmp, is_lt, is_gt, is_eq}
use Rattle.persist_map.specs.Pairs.{value_at}
use Rattle.key_states.specs.declared.rows.KeyRow.{KeyRow}
use Rattle.key_states.specs.declared.states.Stored.{Stored}
use Rattle.key_states.specs.declared.states.Stored.TheVariants.{Enabled, Disabled, Pending}
use Rattle.account_rows.specs.declared.keys.Due.{Due}
use Rattle.account_rows.specs.Changes.{is_gone, rotated_if_due}
use Rattle.account_rows.specs.History.{place_in}

-- ---- rows by their places

-- the rows of pairs of a place and a row
abbrev pub rows_in : List (ℕ × KeyRow) → List KeyRow
rows_in pairs = map (λ (pair : ℕ × KeyRow). pair.1) pairs

-- the first row that was made at a place
abbrev pub row_at : List KeyRow → ℕ → Option KeyRow
row_at rows place = find (λ (row : KeyRow). is_eq (nat_cmp row.born place)) rows

-- a row among those that were made before it and behind it, in place of the one that was made with it
abbrev pub placed : List KeyRow → KeyRow → List KeyRow
placed rows new = filter (λ (row : KeyRow). is_lt (nat_cmp row.born new.born)) rows ++ new ∷ filter (λ (row : KeyRow). is_gt (nat_cmp row.born new.born)) rows

-- the rows that were made at other places
abbrev pub unplaced : List KeyRow → ℕ → List KeyRow
unplaced rows place = filter (λ (row : KeyRow). not (is_eq (nat_cmp row.born place))) rows

-- rows in order of making, each with an id that ends with its place
pub record AreInOrder (rows : List KeyRow) : Type 0 where
  pub rise : AllPairs (λ (p q : KeyRow). p.born < q.born) rows
  pub named : All (λ (row : KeyRow). place_in row.key ≡ row.born) rows

-- ---- dates

abbrev pub date_by : Stored → Option ℕ → ℕ → Option ℕ
date_by Enabled None next = None
date_by Enabled (Some period) next = Some next
date_by Disabled period next = None
date_by (Pending date days) period next = Some date

-- the date from which on housekeeping has something to do for a key: that of its deletion where that is scheduled, or
-- that of its next automatic rotation where it is enabled and has a period
abbrev pub date_of : KeyRow → Option ℕ
date_of row = date_by row.stored row.period row.next

abbrev pub date_found : Option KeyRow → Option ℕ
date_found None = None
date_found (Some row) = date_of row

abbrev pub is_date : ℕ → Option ℕ → Bool
is_date date None = false
is_date date (Some other) = other == date

-- what stands at a date: one item, where this is the date
abbrev pub due_on : ℕ → Option ℕ → Option (Unit {0})
due_on date of = if is_date date of then Some tt else None

-- what stands at a date and a place: one item, where the row that was made there has this date
abbrev pub due_at : List (ℕ × KeyRow) → Due → Option (Unit {0})
due_at pairs due = due_on due.date (date_found (value_at nat_cmp pairs due.place))

-- the dates are those of the rows
abbrev pub AreDatesOf : (Due → Due → Ordering) → List (ℕ × KeyRow) → List (Due × Unit {0}) → Type 0
AreDatesOf cmp pairs dates = (due : Due) → value_at cmp dates due ≡ due_at pairs due

-- whether the date has come
abbrev pub has_come : ℕ → Option ℕ → Bool
has_come time None = false
has_come time (Some date) = nat_le date time

-- the places of the dates that have come
abbrev pub places_come : ℕ → List (Due × Unit {0}) → List ℕ
places_come time dates = map (λ (pair : Due × Unit {0}). pair.0.place) (filter (λ (pair : Due × Unit {0}). nat_le pair.0.date time) dates)

abbrev pub is_place : List ℕ → ℕ → Bool
is_place places place = list_any (λ (other : ℕ). other == place) places

-- each row that housekeeping has something to do for was made at one of the places
abbrev pub AreCovered : ℕ → List ℕ → List KeyRow → Type 0
AreCovered time places rows = All (λ (row : KeyRow). has_come time (date_of row) ≡ true → is_place places row.born ≡ true) rows

-- ---- housekeeping, place by place

-- what becomes of a row
abbrev pub kept : ℕ → KeyRow → List KeyRow
kept time row = if is_gone time row then [] else rotated_if_due time row ∷ []

-- the rows, of which those that were made at the places have been gone through
abbrev pub kept_at : ℕ → List ℕ → List KeyRow → List KeyRow
kept_at time places rows = flat_map (λ (row : KeyRow). if is_place places row.born then kept time row else row ∷ []) rows

-- the rows after one more, which was made at a place, if any was
abbrev pub kept_more : ℕ → ℕ → Option KeyRow → List KeyRow → List KeyRow
kept_more time place None rows = rows
kept_more time place (Some row) rows = if is_gone time row then unplaced rows place else placed rows (rotated_if_due time row)

-- the ids of the rows at the places that are gone
abbrev pub gone_at : ℕ → Option KeyRow → List (List ℕ)
gone_at time None = []
gone_at time (Some row) = if is_gone time row then row.key ∷ [] else []

abbrev pub items_of : Option (List ℕ) → List (List ℕ)
items_of None = []
items_of (Some id) = id ∷ []

abbrev pub gone_among : ℕ → List KeyRow → List ℕ → List (List ℕ)
gone_among time rows places = flat_map (λ (place : ℕ). gone_at time (row_at rows place)) places

-- whether an id is among ids
abbrev pub is_id : List (List ℕ) → List ℕ → Bool
is_id ids id = list_any (λ (key : List ℕ). bytes_eq id key) ids
