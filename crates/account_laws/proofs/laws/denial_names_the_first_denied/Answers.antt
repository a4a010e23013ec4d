use Rattle.account_laws.proofs.Allowing.{names_the_first}
use Rattle.account_laws.proofs.laws.denial_names_the_first_denied.Goals as goal

pub returns : goal.returns
returns c = names_the_first
