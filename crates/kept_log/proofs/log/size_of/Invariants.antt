use Rattle.std.proofs.Common.{◌≡◌, ◌-◌, ◌^◌, length, min, take}
use Rattle.kept_log.specs.Log.{batch_of, lines}
use Rattle.kept_log.proofs.log.size_of.Given as goal

-- the lines of the bodies so far
abbrev pub invariant-loop-body : goal.invariant-loop-body
invariant-loop-body l = l.size ≡ min (length (lines (batch_of (take l.body-index l.bodies)))) (2 ^ 64 - 1)
