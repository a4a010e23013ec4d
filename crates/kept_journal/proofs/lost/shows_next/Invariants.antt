use Rattle.std.proofs.Common.{length}
use Rattle.kept_journal.specs.Lost.{ShowsNext}
use Rattle.kept_journal.proofs.lost.shows_next.Given as goal

abbrev pub invariant-loop-rest : goal.invariant-loop-rest
invariant-loop-rest l = (ShowsNext l.key l.text → ShowsNext l.key l.rest) × (ShowsNext l.key l.rest → ShowsNext l.key l.text)

abbrev pub decreases-loop-rest : goal.decreases-loop-rest
decreases-loop-rest l = length l.rest
