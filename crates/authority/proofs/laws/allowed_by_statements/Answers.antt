use Rattle.authority.proofs.LawFacts.{allowed_by}
use Rattle.authority.proofs.laws.allowed_by_statements.Goals as goal

pub returns : goal.returns
returns c = allowed_by
