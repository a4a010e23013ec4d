use Rattle.kept_journal.proofs.Rising.{later_is_higher}
use Rattle.kept_journal.proofs.laws.later_starts_are_higher.Goals as goal

pub returns : goal.returns
returns c = later_is_higher
