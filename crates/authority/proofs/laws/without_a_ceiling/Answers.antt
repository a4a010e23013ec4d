use Rattle.authority.proofs.LawFacts.{stands_alone, allowed_alone}
use Rattle.authority.proofs.laws.without_a_ceiling.Goals as goal

pub returns-clause-standing : goal.returns-clause-standing
returns-clause-standing c = stands_alone

pub returns-clause-allowed : goal.returns-clause-allowed
returns-clause-allowed c = allowed_alone
