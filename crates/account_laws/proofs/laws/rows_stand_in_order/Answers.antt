use Rattle.account_laws.proofs.Standing.{stand_in_order}
use Rattle.account_laws.proofs.laws.rows_stand_in_order.Goals as goal

pub returns : goal.returns
returns c = stand_in_order
