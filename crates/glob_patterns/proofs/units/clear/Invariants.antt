-- The flags before a place are clear, as the bytes there are small, and those behind it are as they were.
use Rattle.std.proofs.Common.{◌≡◌, ◌<◌, ℕ, false, get_or}
use Rattle.glob_patterns.proofs.units.clear.Given as goal

abbrev pub invariant-loop-k : goal.invariant-loop-k
invariant-loop-k l = record {
  clear : (j : ℕ) → j < l.k → get_or l.flags j false ≡ false;
  small : (j : ℕ) → j < l.k → get_or l.window j 0 < 256;
}
