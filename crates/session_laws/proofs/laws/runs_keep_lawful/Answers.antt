use Rattle.session_laws.proofs.SessionCalls.{keeps_lawful, keeps_opened}
use Rattle.session_laws.proofs.laws.runs_keep_lawful.Goals as goal

pub returns-clause-lawful : goal.returns-clause-lawful
returns-clause-lawful c = keeps_lawful

pub returns-clause-opened : goal.returns-clause-opened
returns-clause-opened c = keeps_opened
