use Rattle.kms_config.proofs.NameFacts.{region_is}
use Rattle.kms_config.proofs.forms.is_region_text.Goals as goal

pub returns : goal.returns
returns c = region_is c.args.text.now c.is_region.result c.is_region.ensures
