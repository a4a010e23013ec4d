use Rattle.std.proofs.Common.{◌≡◌, ◌++◌, drop, map}
use Rattle.std.specs.Option.{option_map}
use Rattle.serde_json.specs.View.{view}
use Rattle.kms_json.specs.Fields.{row_of, values_of}
use Rattle.kms_json.proofs.fields.read_values.Given as goal

abbrev pub invariant-loop-field : goal.invariant-loop-field
invariant-loop-field l = values_of (map row_of l.fields) (view l.body) ≡ option_map (λ more. l.values.items ++ more) (values_of (map row_of (drop l.field-index l.fields)) (view l.body))
