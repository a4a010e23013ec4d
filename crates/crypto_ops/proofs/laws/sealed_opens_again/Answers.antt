use Rattle.crypto_ops.proofs.OpeningFacts.{sealed_again, sealed_one_again}
use Rattle.crypto_ops.proofs.laws.sealed_opens_again.Goals as goal

pub returns-clause-two : goal.returns-clause-two
returns-clause-two c = sealed_again

pub returns-clause-one : goal.returns-clause-one
returns-clause-one c = sealed_one_again
