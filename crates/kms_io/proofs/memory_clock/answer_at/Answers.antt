use Rattle.kms_io.proofs.Clocks.{time_at}
use Rattle.kms_io.proofs.memory_clock.answer_at.Goals as goal

pub returns-clause-bound : goal.returns-clause-bound
returns-clause-bound c = time_at c.args.answers.now _ c.requires
