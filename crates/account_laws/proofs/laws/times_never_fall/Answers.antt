use Rattle.account_laws.proofs.LawFacts.{times_never_fall as law}
use Rattle.account_laws.proofs.laws.times_never_fall.Goals as goal

pub returns : goal.returns
returns c = law
