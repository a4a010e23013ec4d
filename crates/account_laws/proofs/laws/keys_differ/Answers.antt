use Rattle.account_laws.proofs.LawFacts.{keys_differ as law}
use Rattle.account_laws.proofs.laws.keys_differ.Goals as goal

pub returns : goal.returns
returns c = law
