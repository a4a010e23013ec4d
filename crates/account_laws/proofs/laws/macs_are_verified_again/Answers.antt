use Rattle.account_laws.proofs.MacFacts.{verified_again}
use Rattle.account_laws.proofs.laws.macs_are_verified_again.Goals as goal

pub returns : goal.returns
returns c = verified_again
