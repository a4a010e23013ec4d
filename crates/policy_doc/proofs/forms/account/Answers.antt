use Rattle.policy_doc.proofs.FormFacts.{account_is}
use Rattle.policy_doc.proofs.forms.account.Goals as goal

pub returns : goal.returns
returns c = account_is _ _ c.read.ensures
