use Rattle.std.proofs.Common.{vec_len, ◌≤◌, ◌-◌}
use Rattle.program_cases.proofs.explained.later_clocks.Given as goal

abbrev pub invariant-loop-alloc : goal.invariant-loop-alloc
invariant-loop-alloc l = vec_len l.clocks ≤ 64

abbrev pub decreases-loop-alloc : goal.decreases-loop-alloc
decreases-loop-alloc l = 64 - vec_len l.clocks
