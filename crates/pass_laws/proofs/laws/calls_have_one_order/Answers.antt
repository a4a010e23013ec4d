use Rattle.pass_laws.proofs.Orders.{calls_have_one_order}
use Rattle.pass_laws.proofs.laws.calls_have_one_order.Goals as goal

pub returns : goal.returns
returns c = calls_have_one_order
