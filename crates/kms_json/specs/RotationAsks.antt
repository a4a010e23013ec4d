-- The fields of the operations on the rotation of keys, in the order in which they are judged, and what each asks by what is given to them (AWS KMS API Reference, EnableKeyRotation).
use Rattle.std.specs.Prelude.{List, [], ◌∷◌, codes, ℕ}
use Rattle.kms_json.specs.declared.fields.Kind.TheVariants.{Whole}
use Rattle.kms_json.specs.declared.given.Given.{Given}
use Rattle.kms_json.specs.declared.asks.Changing.{Changing}
use Rattle.kms_json.specs.declared.asks.Changing.TheVariants as changing
use Rattle.kms_json.specs.declared.asks.Reading.{Reading}
use Rattle.kms_json.specs.declared.asks.Reading.TheVariants as reading
use Rattle.kms_json.specs.Given.{text_in, number_or}
use Rattle.kms_json.specs.Fields.{FieldRow, always, maybe, field, key_reference}
use Rattle.kms_json.specs.PageAsks.{page}

abbrev pub enable_key_rotation_fields : List FieldRow
enable_key_rotation_fields =
    key_reference (codes "KeyId") always ∷
    field (codes "RotationPeriodInDays") (Whole 90 2560) maybe ∷ []

-- a key rotates each 365 days where no number of days is given
abbrev pub enable_key_rotation : (List ℕ → Given) → Changing
enable_key_rotation at = changing.EnableKeyRotation (text_in (at (codes "KeyId"))) (number_or (at (codes "RotationPeriodInDays")) 365)

abbrev pub list_key_rotations : (List ℕ → Given) → Reading
list_key_rotations at = reading.ListKeyRotations (text_in (at (codes "KeyId"))) (page 100 at)

abbrev pub disable_key_rotation : (List ℕ → Given) → Changing
disable_key_rotation at = changing.DisableKeyRotation (text_in (at (codes "KeyId")))

abbrev pub rotate_key_on_demand : (List ℕ → Given) → Changing
rotate_key_on_demand at = changing.RotateKeyOnDemand (text_in (at (codes "KeyId")))

abbrev pub get_key_rotation_status : (List ℕ → Given) → Reading
get_key_rotation_status at = reading.GetKeyRotationStatus (text_in (at (codes "KeyId")))
