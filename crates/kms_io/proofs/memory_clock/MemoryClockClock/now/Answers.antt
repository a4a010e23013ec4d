use Rattle.std.proofs.Common.{ap, ◌∙◌}
use Rattle.kms_io.specs.Clock.{listed}
use Rattle.kms_io.proofs.Clocks.{tells_next}
use Rattle.kms_io.proofs.memory_clock.MemoryClockClock.now.Goals as goal

pub returns-clause-told : goal.returns-clause-told
returns-clause-told c =
    let value = c.answer_at.ensures.value ∙ ap (λ answers. listed answers c.args.self.now.calls) c.deref.ensures.value in
    tells_next (listed c.args.self.now.answers.items) c.args.self.now.calls c.saturating_add-self.result c.answer_at.result c.saturating_add-self.ensures value
