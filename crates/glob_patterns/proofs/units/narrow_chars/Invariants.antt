-- The flags before a place are narrowed, and those behind it are as they were.
use Rattle.std.proofs.Common.{◌≡◌, ◌==◌, ◌&&◌, ◌||◌, ◌<◌, ◌≤◌, ℕ, false, get_or}
use Rattle.glob_patterns.proofs.units.narrow_chars.Given as goal

abbrev pub invariant-loop-k : goal.invariant-loop-k
invariant-loop-k l = record {
  narrowed : (j : ℕ) → j < l.k → get_or l.flags j false ≡ (get_or l.fn.flags j false && (get_or l.window j 0 == l.first || get_or l.window j 0 == l.second));
  kept : (j : ℕ) → l.k ≤ j → get_or l.flags j false ≡ get_or l.fn.flags j false;
}
