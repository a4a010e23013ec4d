use Rattle.account_laws.proofs.Histories.{lawful_opened, opened_push}
use Rattle.account_laws.proofs.laws.histories_stay_opened.Goals as goal

pub returns-clause-lawful : goal.returns-clause-lawful
returns-clause-lawful c = lawful_opened

pub returns-clause-next : goal.returns-clause-next
returns-clause-next c = opened_push
