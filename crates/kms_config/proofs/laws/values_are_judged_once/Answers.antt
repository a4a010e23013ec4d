use Rattle.kms_config.proofs.ConfigJudged.{each_judged_once}
use Rattle.kms_config.proofs.laws.values_are_judged_once.Goals as goal

pub returns : goal.returns
returns c = each_judged_once
