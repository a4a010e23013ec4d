use Rattle.std.proofs.Common.{vec_len, ◌≤◌, ◌-◌}
use Rattle.program_cases.proofs.scenes.clocks.Given as goal

abbrev pub invariant-loop-clocks : goal.invariant-loop-clocks
invariant-loop-clocks l = vec_len l.clocks ≤ 64

abbrev pub decreases-loop-clocks : goal.decreases-loop-clocks
decreases-loop-clocks l = 64 - vec_len l.clocks
