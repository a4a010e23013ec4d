use Rattle.account_laws.proofs.LawFacts.{grants_differ as law}
use Rattle.account_laws.proofs.laws.grants_differ.Goals as goal

pub returns : goal.returns
returns c = law
