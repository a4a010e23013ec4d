use Rattle.sigv4_check.proofs.HeaderFacts.{authorization_of_reads}
use Rattle.sigv4_check.proofs.laws.authorization_of_reads.Goals as goal

pub returns : goal.returns
returns c = authorization_of_reads
