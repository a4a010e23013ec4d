-- The fields of the operations on the states of keys, in the order in which they are judged, and what each asks by what is given to them (AWS KMS API Reference, ScheduleKeyDeletion).
use Rattle.std.specs.Prelude.{List, [], ◌∷◌, codes, ℕ}
use Rattle.kms_json.specs.declared.fields.Kind.TheVariants.{Whole}
use Rattle.kms_json.specs.declared.given.Given.{Given}
use Rattle.kms_json.specs.declared.asks.Changing.{Changing}
use Rattle.kms_json.specs.declared.asks.Changing.TheVariants as changing
use Rattle.kms_json.specs.Given.{text_in, number_or}
use Rattle.kms_json.specs.Fields.{FieldRow, always, maybe, field, key_reference}

abbrev pub schedule_key_deletion_fields : List FieldRow
schedule_key_deletion_fields =
    key_reference (codes "KeyId") always ∷
    field (codes "PendingWindowInDays") (Whole 7 30) maybe ∷ []

-- a key waits 30 days where no number of days is given
abbrev pub schedule_key_deletion : (List ℕ → Given) → Changing
schedule_key_deletion at = changing.ScheduleKeyDeletion (text_in (at (codes "KeyId"))) (number_or (at (codes "PendingWindowInDays")) 30)

abbrev pub enable_key : (List ℕ → Given) → Changing
enable_key at = changing.EnableKey (text_in (at (codes "KeyId")))

abbrev pub disable_key : (List ℕ → Given) → Changing
disable_key at = changing.DisableKey (text_in (at (codes "KeyId")))

abbrev pub cancel_key_deletion : (List ℕ → Given) → Changing
cancel_key_deletion at = changing.CancelKeyDeletion (text_in (at (codes "KeyId")))
