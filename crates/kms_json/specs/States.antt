-- The states of keys, as replies name them (AWS KMS API Reference, KeyMetadata).
use Rattle.std.specs.Prelude.{ℕ, List, codes, Bool, true, false, Option, Some, None}
use Rattle.kms_json.specs.declared.states.KeyState.{KeyState}
use Rattle.kms_json.specs.declared.states.KeyState.TheVariants.{Enabled, Disabled, PendingDeletion}

abbrev pub state_name : KeyState → List ℕ
state_name Enabled = codes "Enabled"
state_name Disabled = codes "Disabled"
state_name (PendingDeletion date) = codes "PendingDeletion"

abbrev pub is_enabled : KeyState → Bool
is_enabled Enabled = true
is_enabled _ = false

abbrev pub deletion_date : KeyState → Option ℕ
deletion_date (PendingDeletion date) = Some date
deletion_date _ = None
