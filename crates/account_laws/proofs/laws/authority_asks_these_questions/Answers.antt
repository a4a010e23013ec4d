use Rattle.account_laws.proofs.AskingFacts.{asks_these}
use Rattle.account_laws.proofs.laws.authority_asks_these_questions.Goals as goal

pub returns : goal.returns
returns c = asks_these
