use Rattle.journal_laws.proofs.ReadingBack.{read_back, opened_read_back, lawful_read_back}
use Rattle.journal_laws.proofs.laws.journal_is_read_back.Goals as goal

pub returns-clause-held : goal.returns-clause-held
returns-clause-held c = read_back

pub returns-clause-opened : goal.returns-clause-opened
returns-clause-opened c = opened_read_back

pub returns-clause-lawful : goal.returns-clause-lawful
returns-clause-lawful c = lawful_read_back
