use Rattle.journal_laws.proofs.Sound.{next_fits}
use Rattle.journal_laws.proofs.laws.next_entries_fit.Goals as goal

pub returns : goal.returns
returns c = next_fits
