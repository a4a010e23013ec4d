use Rattle.crypto_ops.proofs.OpeningFacts.{sealed_blob, sealed_one_blob}
use Rattle.crypto_ops.proofs.laws.sealed_is_a_blob.Goals as goal

pub returns-clause-two : goal.returns-clause-two
returns-clause-two c = sealed_blob

pub returns-clause-one : goal.returns-clause-one
returns-clause-one c = sealed_one_blob
