use Rattle.kms_names.proofs.ActionFacts.{bits_or}
use Rattle.kms_names.proofs.action_sets.ActionSet.union.Goals as goal

pub returns : goal.returns
returns c = bits_or c.self.inside.bits c.other.inside.bits c.args.self c.args.other c.self.view_is c.other.view_is
