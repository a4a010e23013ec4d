use Rattle.account_laws.proofs.BootFacts.{runs_decide_the_same, unchecked_alike}
use Rattle.account_laws.proofs.laws.runs_decide_the_same.Goals as goal

pub returns-clause-decisions : goal.returns-clause-decisions
returns-clause-decisions c = runs_decide_the_same

pub returns-clause-unchecked : goal.returns-clause-unchecked
returns-clause-unchecked c = unchecked_alike
