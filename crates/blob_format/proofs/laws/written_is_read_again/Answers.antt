use Rattle.blob_format.proofs.BlobFacts.{read_again}
use Rattle.blob_format.proofs.laws.written_is_read_again.Goals as goal

pub returns : goal.returns
returns c = read_again
