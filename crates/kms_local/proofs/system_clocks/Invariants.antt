use Rattle.std.proofs.Common.{vec_len, ◌≤◌, ◌-◌}
use Rattle.kms_local.proofs.system_clocks.Given as goal

abbrev pub invariant-loop-clocks : goal.invariant-loop-clocks
invariant-loop-clocks g l = vec_len l.clocks ≤ 64

abbrev pub decreases-loop-clocks : goal.decreases-loop-clocks
decreases-loop-clocks g l = 64 - vec_len l.clocks
