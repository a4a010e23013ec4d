-- The states of keys, and when an automatic rotation is due (AWS KMS Developer Guide, "Key states of AWS KMS keys" and
-- "Rotate AWS KMS keys").
use Rattle.std.specs.Prelude.{◌≡◌, ℕ, ◌≤◌, Bool, true, false, ◌&&◌, nat_le, if◌then◌else◌, IsSome, is_some}
use Rattle.key_states.specs.declared.rows.KeyRow.{KeyRow}
use Rattle.key_states.specs.declared.states.State.{State}
use Rattle.key_states.specs.declared.states.State.TheVariants as state
use Rattle.key_states.specs.declared.states.Stored.{Stored}
use Rattle.key_states.specs.declared.states.Stored.TheVariants.{Enabled, Disabled, Pending}

-- the state at a moment: a key whose deletion is scheduled is gone from its date on
abbrev pub state_of : Stored → ℕ → State
state_of Enabled moment = state.Enabled
state_of Disabled moment = state.Disabled
state_of (Pending date days) moment = if nat_le date moment then state.Gone else state.PendingDeletion

-- deletion is scheduled for a date that is not after the moment
abbrev pub IsGone : Stored → ℕ → Type 0
IsGone stored moment = (date : ℕ) × (days : ℕ) × (stored ≡ Pending date days) × (date ≤ moment)

abbrev pub is_enabled : Stored → Bool
is_enabled Enabled = true
is_enabled Disabled = false
is_enabled (Pending date days) = false

-- an automatic rotation is due: the key is enabled, has a period, and its next date is not after the moment
abbrev pub IsDue : KeyRow → ℕ → Type 0
IsDue row moment = (row.stored ≡ Enabled) × IsSome row.period × (row.next ≤ moment)

-- whether it is
abbrev pub is_due : KeyRow → ℕ → Bool
is_due row moment = is_enabled row.stored && (is_some row.period && nat_le row.next moment)
