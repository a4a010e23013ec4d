use Rattle.gcm_seal.proofs.SealFacts.{opens_sealed, opens_nothing}
use Rattle.gcm_seal.proofs.laws.open_undoes_seal.Goals as goal

pub returns-clause-restored : goal.returns-clause-restored
returns-clause-restored c = opens_sealed

pub returns-clause-refused : goal.returns-clause-refused
returns-clause-refused c = opens_nothing
