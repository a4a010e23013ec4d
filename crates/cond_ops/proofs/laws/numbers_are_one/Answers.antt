use Rattle.cond_ops.proofs.ReadingFacts.{one_number}
use Rattle.cond_ops.proofs.laws.numbers_are_one.Goals as goal

pub returns : goal.returns
returns c = one_number
