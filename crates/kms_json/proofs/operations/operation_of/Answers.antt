use Rattle.std.proofs.Common.{rules}
use Rattle.kms_json.specs.Operations.{operation_named}
use Rattle.kms_json.proofs.operations.operation_of.Goals as goal

pub returns : goal.returns
unfolding operation_named
returns c = search rules
