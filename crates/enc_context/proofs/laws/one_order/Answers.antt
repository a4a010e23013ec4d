use Rattle.enc_context.proofs.PairFacts.{in_one_order}
use Rattle.enc_context.proofs.laws.one_order.Goals as goal

pub returns : goal.returns
returns c = in_one_order
