use Rattle.kept_journal.proofs.Printable.{entry_high}
use Rattle.kept_journal.proofs.laws.entry_lines_are_printable.Goals as goal

pub returns : goal.returns
returns c = entry_high
