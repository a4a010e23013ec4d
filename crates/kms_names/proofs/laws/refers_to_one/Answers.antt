use Rattle.kms_names.proofs.ReferenceLaws.{one_reference}
use Rattle.kms_names.proofs.laws.refers_to_one.Goals as goal

pub returns : goal.returns
returns c = one_reference
