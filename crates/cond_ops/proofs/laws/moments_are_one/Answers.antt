use Rattle.cond_ops.proofs.ReadingFacts.{one_moment}
use Rattle.cond_ops.proofs.laws.moments_are_one.Goals as goal

pub returns : goal.returns
returns c = one_moment
