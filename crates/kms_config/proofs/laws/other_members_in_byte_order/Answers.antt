use Rattle.kms_config.proofs.PartsJudged.{others_sorted}
use Rattle.kms_config.proofs.laws.other_members_in_byte_order.Goals as goal

pub returns : goal.returns
returns c = others_sorted
