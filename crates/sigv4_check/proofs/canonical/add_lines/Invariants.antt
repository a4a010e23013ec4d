use Rattle.std.proofs.Common.{length}
use Rattle.sigv4_check.specs.Parts.{parts_at}
use Rattle.sigv4_check.specs.Fields.{fields_in}
use Rattle.sigv4_check.proofs.ValueFacts.{LinesReach}
use Rattle.sigv4_check.proofs.canonical.add_lines.Given as goal

abbrev pub invariant-loop-name : goal.invariant-loop-name
invariant-loop-name l = LinesReach l.fn.hasher l.hasher (fields_in l.buffer l.cut) (parts_at 59 l.names) (parts_at 59 l.rest)

abbrev pub decreases-loop-name : goal.decreases-loop-name
decreases-loop-name l = length l.rest
