-- What a clock that adds one second a call tells.
use Rattle.std.specs.Prelude.{ℕ, List, Option}
use Rattle.kms_io.specs.Clock.{stepped, told_so_far}
use Rattle.kms_io.specs.declared.memory_clock.StepClock.{StepClock}

abbrev pub steps_so_far : StepClock → Option (List ℕ)
steps_so_far clock = told_so_far (stepped clock.first) clock.calls

-- its answer to the next call
abbrev pub next_step : StepClock → ℕ
next_step clock = stepped clock.first clock.calls
