use Rattle.std.proofs.Common.{◌≡◌, drop, map}
use Rattle.kms_json.specs.Operations.{operation_in, name_row}
use Rattle.kms_json.proofs.operations.named.Given as goal

abbrev pub invariant-loop-row : goal.invariant-loop-row
invariant-loop-row l = operation_in (map name_row (drop l.row-index l.names)) l.target ≡ operation_in (map name_row l.names) l.target
