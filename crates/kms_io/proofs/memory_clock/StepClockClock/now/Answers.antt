use Rattle.kms_io.specs.Clock.{stepped}
use Rattle.kms_io.proofs.Clocks.{tells_next}
use Rattle.kms_io.proofs.memory_clock.StepClockClock.now.Goals as goal

pub returns-clause-told : goal.returns-clause-told
returns-clause-told c = tells_next (stepped c.args.self.now.first) c.args.self.now.calls c.saturating_add-self.result c.step_at.result c.saturating_add-self.ensures c.step_at.ensures.value
