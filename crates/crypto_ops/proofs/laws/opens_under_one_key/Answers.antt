use Rattle.crypto_ops.proofs.OpeningFacts.{one_commitment, one_key}
use Rattle.crypto_ops.proofs.laws.opens_under_one_key.Goals as goal

pub returns-clause-commitment : goal.returns-clause-commitment
returns-clause-commitment c = one_commitment

pub returns-clause-key : goal.returns-clause-key
returns-clause-key c = one_key
