use Rattle.account_laws.proofs.Allowing.{passes_without}
use Rattle.account_laws.proofs.laws.without_a_ceiling_statements_and_grants_decide.Goals as goal

pub returns : goal.returns
returns c = passes_without
