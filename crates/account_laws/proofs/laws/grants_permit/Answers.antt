use Rattle.account_laws.proofs.Allowing.{grants_permit}
use Rattle.account_laws.proofs.laws.grants_permit.Goals as goal

pub returns : goal.returns
returns c = grants_permit
