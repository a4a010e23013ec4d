use Rattle.kms_config.proofs.ConfigJudged.{configurations_read}
use Rattle.kms_config.proofs.laws.configurations_are_read.Goals as goal

pub returns : goal.returns
returns c = configurations_read
