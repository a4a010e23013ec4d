use Rattle.std.proofs.Common.{◌≤◌}
use Rattle.sigv4_check.proofs.ValueFacts.{Reaches}
use Rattle.sigv4_check.proofs.canonical.add_value.Given as goal

abbrev pub invariant-loop-i : goal.invariant-loop-i
invariant-loop-i l = (l.start ≤ l.i) × Reaches l.fn.hasher l.hasher l.value l.start l.i
