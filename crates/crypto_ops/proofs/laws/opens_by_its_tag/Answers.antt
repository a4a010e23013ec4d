use Rattle.crypto_ops.proofs.OpeningFacts.{opened_by_tag}
use Rattle.crypto_ops.proofs.laws.opens_by_its_tag.Goals as goal

pub returns : goal.returns
returns c = opened_by_tag
