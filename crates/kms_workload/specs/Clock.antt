-- What the clock of a workload tells.
use Rattle.std.specs.Prelude.{ℕ, List, Option}
use Rattle.kms_io.specs.Clock.{told_so_far}
use Rattle.kms_workload.specs.Seconds.{second_of}
use Rattle.kms_workload.specs.declared.clock.LoadClock.{LoadClock}

abbrev pub seconds_so_far : LoadClock → Option (List ℕ)
seconds_so_far clock = told_so_far second_of clock.calls

-- how often it was asked
abbrev pub calls_of : LoadClock → ℕ
calls_of clock = clock.calls
