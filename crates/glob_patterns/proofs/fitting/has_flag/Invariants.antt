-- Where none was found, none of the flags before a place is set.
use Rattle.std.proofs.Common.{◌≡◌, ◌<◌, ℕ, false, get_or}
use Rattle.glob_patterns.proofs.fitting.has_flag.Given as goal

abbrev pub invariant-loop-k : goal.invariant-loop-k
invariant-loop-k l = l.found ≡ false → (j : ℕ) → j < l.k → get_or l.flags j false ≡ false
