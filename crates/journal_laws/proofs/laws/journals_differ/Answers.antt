use Rattle.journal_laws.proofs.ReadingBack.{lawful_texts_differ}
use Rattle.journal_laws.proofs.Telling.{texts_differ}
use Rattle.journal_laws.proofs.laws.journals_differ.Goals as goal

pub returns-clause-formed : goal.returns-clause-formed
returns-clause-formed c = texts_differ

pub returns-clause-lawful : goal.returns-clause-lawful
returns-clause-lawful c = lawful_texts_differ
