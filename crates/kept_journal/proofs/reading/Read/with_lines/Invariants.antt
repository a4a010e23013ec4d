use Rattle.std.proofs.Common.{length}
use Rattle.kept_journal.proofs.Readings.{IsAt}
use Rattle.kept_journal.proofs.reading.Read.with_lines.Given as goal

abbrev pub invariant-loop-rest : goal.invariant-loop-rest
invariant-loop-rest l = IsAt l.fn.self.account.facts l.text l.fn.self l.read l.rest l.place

abbrev pub decreases-loop-rest : goal.decreases-loop-rest
decreases-loop-rest l = length l.rest
