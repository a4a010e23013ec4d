use Rattle.account_laws.proofs.Retiring.{dropped_stays_away}
use Rattle.account_laws.proofs.laws.dropped_grants_stay_away.Goals as goal

pub returns : goal.returns
returns c = dropped_stays_away
