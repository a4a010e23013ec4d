use Rattle.std.proofs.Common.{◌≡◌, ◌≤◌, ◌+◌, length, drop}
use Rattle.kept_journal.proofs.Whole.{feed_count}
use Rattle.kept_journal.proofs.lost.count_lines.Given as goal

abbrev pub invariant-loop-byte : goal.invariant-loop-byte
invariant-loop-byte l = (l.count ≤ l.byte-index) × (l.count + feed_count (drop l.byte-index l.lines) ≡ feed_count l.lines)
