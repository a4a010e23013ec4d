use Rattle.std.proofs.Common.{◌≡◌, ◌↔◌, ℕ, ◌<◌, slice_index}
use Rattle.journal_file.proofs.reading.are_equal.Given as goal

abbrev pub invariant-loop-i : goal.invariant-loop-i
invariant-loop-i l = (l.difference ≡ 0) ↔ ((k : ℕ) → k < l.i → slice_index l.left k ≡ slice_index l.right k)
