use Rattle.blob_format.proofs.BlobFacts.{same_value}
use Rattle.blob_format.proofs.laws.one_value.Goals as goal

pub returns : goal.returns
returns c = same_value
