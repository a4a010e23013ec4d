use Rattle.kms_names.proofs.PrincipalReading.{principal_reads}
use Rattle.kms_names.proofs.laws.principal_of_reads.Goals as goal

pub returns : goal.returns
returns c = principal_reads
