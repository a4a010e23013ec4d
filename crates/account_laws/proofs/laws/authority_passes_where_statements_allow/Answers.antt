use Rattle.account_laws.proofs.Allowing.{passes_where_allowed}
use Rattle.account_laws.proofs.laws.authority_passes_where_statements_allow.Goals as goal

pub returns : goal.returns
returns c = passes_where_allowed
