-- The values of fields that stand in the fields' order, by the fields' names.
use Rattle.std.specs.Prelude.{ℕ, List, [], ◌∷◌, drop, if◌then◌else◌}
use Rattle.std.specs.Str.{bytes_eq}
use Rattle.kms_json.specs.declared.given.Given.{Given}
use Rattle.kms_json.specs.declared.given.Given.TheVariants as given
use Rattle.kms_json.specs.Fields.{FieldRow}

abbrev pub first_of : List Given → Given
first_of [] = given.Absent
first_of (value ∷ values) = value

-- the value at the place of the field of a name; where there is none it isn't given
abbrev pub held : List FieldRow → List Given → List ℕ → Given
held [] values name = given.Absent
held (row ∷ rows) values name = if bytes_eq row.name name then first_of values else held rows (drop 1 values) name
