use Rattle.kept_journal.proofs.Same.{starts_rise}
use Rattle.kept_journal.proofs.laws.starts_rise.Goals as goal

pub returns : goal.returns
returns c = starts_rise
