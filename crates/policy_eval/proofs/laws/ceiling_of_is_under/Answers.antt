use Rattle.policy_eval.specs.CeilingOf.{ceiling_of_lem}
use Rattle.policy_eval.proofs.laws.ceiling_of_is_under.Goals as goal

pub returns : goal.returns
returns c = ceiling_of_lem
