use Rattle.std.proofs.Common.{◌≡◌, drop}
use Rattle.kms_io.specs.Clock.{are_times}
use Rattle.worked_cases.proofs.sessions.are_times.Given as goal

abbrev pub invariant-loop-second : goal.invariant-loop-second
invariant-loop-second l = are_times (drop l.second-index l.seconds) ≡ are_times l.seconds
