use Rattle.journal_laws.proofs.ReadForms.{read_formed}
use Rattle.journal_laws.proofs.Sound.{next_formed, opened_is_formed, lawful_is_formed}
use Rattle.journal_laws.proofs.laws.entries_have_forms.Goals as goal

pub returns-clause-next : goal.returns-clause-next
returns-clause-next c = next_formed

pub returns-clause-opened : goal.returns-clause-opened
returns-clause-opened c = opened_is_formed

pub returns-clause-lawful : goal.returns-clause-lawful
returns-clause-lawful c = lawful_is_formed

pub returns-clause-read : goal.returns-clause-read
returns-clause-read c = read_formed
