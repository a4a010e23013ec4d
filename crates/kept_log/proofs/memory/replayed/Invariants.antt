use Rattle.std.proofs.Common.{◌≡◌, take}
use Rattle.kept_log.specs.Memory.{seen_after}
use Rattle.kept_log.proofs.memory.replayed.Given as goal

-- the file after the steps so far
abbrev pub invariant-loop-step : goal.invariant-loop-step
invariant-loop-step l = l.file.items ≡ seen_after l.start (take l.step-index l.steps)
