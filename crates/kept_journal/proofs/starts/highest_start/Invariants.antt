use Rattle.std.proofs.Common.{length}
use Rattle.kept_journal.proofs.starts.highest_start.Given as goal

abbrev pub decreases-loop-rest : goal.decreases-loop-rest
decreases-loop-rest l = length l.rest
