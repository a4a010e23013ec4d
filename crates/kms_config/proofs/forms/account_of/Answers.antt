use Rattle.kms_config.proofs.NameFacts.{account_is}
use Rattle.kms_config.proofs.forms.account_of.Goals as goal

pub returns : goal.returns
returns c = account_is c.args.text.now c.read.result c.read.ensures
