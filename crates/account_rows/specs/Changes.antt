-- What entries do to the rows of keys (AWS KMS API Reference, the operations that append them; AWS KMS Developer Guide,
-- "Rotate AWS KMS keys" and "Delete an AWS KMS key").
use Rattle.std.specs.Prelude.{ℕ, ◌+◌, ◌*◌, ◌≤◌, List, length, [], ◌∷◌, ◌++◌, map, filter, Bool, true, false, not, ◌||◌, Option, Some, None, if◌then◌else◌}
use Rattle.std.specs.List.{list_any}
use Rattle.std.specs.Str.{bytes_eq}
use Rattle.key_states.specs.declared.rows.KeyRow.{KeyRow}
use Rattle.key_states.specs.declared.states.State.{State}
use Rattle.key_states.specs.declared.states.State.TheVariants as state
use Rattle.key_states.specs.declared.states.Stored.{Stored}
use Rattle.key_states.specs.declared.states.Stored.TheVariants.{Enabled, Disabled, Pending}
use Rattle.key_states.specs.States.{state_of, is_due}
use Rattle.hmac_keys.specs.declared.kinds.KeyKind.{KeyKind}
use Rattle.resource_tags.specs.declared.tags.Tag.{Tag as TagValue}
use Rattle.resource_tags.specs.Tags.{with_tags, without_tags}
use Rattle.account_rows.specs.declared.entries.What.{What}
use Rattle.account_rows.specs.declared.entries.What.TheVariants.{CreateKey, Enable, Disable, Schedule, Cancel, RotationOn, RotationOff, RotateNow, Policy, Description, Tag, Untag, House}

-- ---- one row

-- a key has at least one version, and not more than a version's number can say
pub record HasVersions (row : KeyRow) : Type 0 where
  pub some : 1 ≤ length row.versions
  pub few : length row.versions ≤ 4294967295

-- a key as it is made: enabled, with one version, without automatic rotation, and with these tags
abbrev pub new_key : ℕ → ℕ → List ℕ → KeyKind → List ℕ → List ℕ → List TagValue → KeyRow
new_key place time key kind description policy tags = record {
  key = key;
  born = place;
  made = time;
  kind = kind;
  description = description;
  policy = policy;
  stored = Enabled;
  versions = record { time = time; on_demand = false } ∷ [];
  period = None;
  next = 0;
  on_demand = 0;
  tags = with_tags [] tags;
}

abbrev pub with_policy : List ℕ → KeyRow → KeyRow
with_policy text row = record row { policy = text }

abbrev pub with_description : List ℕ → KeyRow → KeyRow
with_description text row = record row { description = text }

abbrev pub with_stored : Stored → KeyRow → KeyRow
with_stored stored row = record row { stored = stored }

-- its tags once these were put
abbrev pub tagged : List TagValue → KeyRow → KeyRow
tagged tags row = record row { tags = with_tags row.tags tags }

-- its tags of other keys than these
abbrev pub untagged : List (List ℕ) → KeyRow → KeyRow
untagged keys row = record row { tags = without_tags row.tags keys }

-- another period of automatic rotation, and the next date
abbrev pub with_period : Option ℕ → ℕ → KeyRow → KeyRow
with_period period next row = record row { period = period; next = next }

-- one version more, which is on demand or not, and the next date
abbrev pub with_version : ℕ → Bool → ℕ → KeyRow → KeyRow
with_version time on_demand next row = record row {
  versions = row.versions ++ record { time = time; on_demand = on_demand } ∷ [];
  next = next;
  on_demand = if on_demand then row.on_demand + 1 else row.on_demand;
}

-- some days after a time
abbrev pub days_after : ℕ → ℕ → ℕ
days_after time days = time + days * 86400

-- the next date of automatic rotation, a period after a time
abbrev pub next_date : ℕ → Option ℕ → ℕ → ℕ
next_date time None next = next
next_date time (Some period) next = days_after time period

-- an automatic rotation
abbrev pub rotated : ℕ → KeyRow → KeyRow
rotated time row = with_version time false (next_date time row.period row.next) row

-- ---- all rows

-- a key whose date of deletion has come
abbrev pub is_state_gone : State → Bool
is_state_gone state.Enabled = false
is_state_gone state.Disabled = false
is_state_gone state.PendingDeletion = false
is_state_gone state.Gone = true

abbrev pub is_gone : ℕ → KeyRow → Bool
is_gone moment row = is_state_gone (state_of row.stored moment)

-- the row of this key is changed
abbrev pub changed : List ℕ → (KeyRow → KeyRow) → List KeyRow → List KeyRow
changed key change keys = map (λ (row : KeyRow). if bytes_eq row.key key then change row else row) keys

-- a key that is due is rotated
abbrev pub rotated_if_due : ℕ → KeyRow → KeyRow
rotated_if_due time row = if is_due row time then rotated time row else row

-- housekeeping: keys that are gone are removed, and those that are due are rotated
abbrev pub house_kept : ℕ → List KeyRow → List KeyRow
house_kept time keys = map (rotated_if_due time) (filter (λ row. not (is_gone time row)) keys)

-- what is done to the keys: one is made, the one of an id is changed, or housekeeping at a time
pub data KeyChange : Type 0 where
  makes : KeyRow → KeyChange
  changes : List ℕ → (KeyRow → KeyRow) → KeyChange
  houses : ℕ → KeyChange

-- what an entry at this place and time does to the keys, where it touches them
abbrev pub key_change : ℕ → ℕ → What → Option KeyChange
key_change place time (CreateKey key kind description policy tags) = Some (makes (new_key place time key kind description policy tags))
key_change place time (Enable key) = Some (changes key (with_stored Enabled))
key_change place time (Disable key) = Some (changes key (with_stored Disabled))
key_change place time (Schedule key date days) = Some (changes key (with_stored (Pending date days)))
key_change place time (Cancel key) = Some (changes key (with_stored Disabled))
key_change place time (RotationOn key period) = Some (changes key (with_period (Some period) (days_after time period)))
key_change place time (RotationOff key) = Some (changes key (λ row. with_period None row.next row))
key_change place time (RotateNow key) = Some (changes key (λ row. with_version time true row.next row))
key_change place time (Policy key text) = Some (changes key (with_policy text))
key_change place time (Description key text) = Some (changes key (with_description text))
key_change place time (Tag key tags) = Some (changes key (tagged tags))
key_change place time (Untag key keys) = Some (changes key (untagged keys))
key_change place time House = Some (houses time)
key_change place time _ = None

abbrev pub keys_by : Option KeyChange → List KeyRow → List KeyRow
keys_by None keys = keys
keys_by (Some (makes row)) keys = keys ++ row ∷ []
keys_by (Some (changes key f)) keys = changed key f keys
keys_by (Some (houses time)) keys = house_kept time keys

-- the keys behind an entry at this place and time
abbrev pub keys_after : ℕ → ℕ → What → List KeyRow → List KeyRow
keys_after place time what keys = keys_by (key_change place time what) keys

-- the ids of the keys that are gone
abbrev pub gone_keys : ℕ → List KeyRow → List (List ℕ)
gone_keys time keys = map (λ (row : KeyRow). row.key) (filter (is_gone time) keys)

-- whether housekeeping has something to do
abbrev pub wants_house : ℕ → List KeyRow → Bool
wants_house moment keys = list_any (λ row. is_gone moment row || is_due row moment) keys
