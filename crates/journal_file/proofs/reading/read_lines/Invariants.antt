use Rattle.std.proofs.Common.{List, length}
use Rattle.account_rows.specs.declared.entries.Entry.{Entry}
use Rattle.journal_file.specs.Faults.{IsExpected}
use Rattle.journal_file.proofs.Awaited.{IsAhead}
use Rattle.journal_file.proofs.ReadingSoFar.{IsSoFar}
use Rattle.journal_file.proofs.reading.read_lines.Given as goal

abbrev pub invariant-loop-rest : goal.invariant-loop-rest
invariant-loop-rest l =
    IsSoFar l.initial.account.facts l.boot l.text l.account l.mac l.rest
    × ((history : List Entry) → IsExpected l.initial.account.facts l.boot l.text history → IsAhead l.initial.account.facts l.boot history l.account.entries l.rest)

abbrev pub decreases-loop-rest : goal.decreases-loop-rest
decreases-loop-rest l = length l.rest
