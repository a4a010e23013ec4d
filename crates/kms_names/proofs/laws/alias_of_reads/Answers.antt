use Rattle.kms_names.proofs.ReadingFacts.{alias_reads}
use Rattle.kms_names.proofs.laws.alias_of_reads.Goals as goal

pub returns : goal.returns
returns c = alias_reads
