use Rattle.std.proofs.Common.{◌≡◌, drop, map}
use Rattle.serde_json.specs.View.{view}
use Rattle.kms_json.specs.Fields.{row_of, first_invalid}
use Rattle.kms_json.proofs.fields.first_fault.Given as goal

abbrev pub invariant-loop-i : goal.invariant-loop-i
invariant-loop-i l = first_invalid (map row_of (drop l.i l.fields)) (view l.body) (drop l.i l.values.items) ≡ first_invalid (map row_of l.fields) (view l.body) l.values.items
