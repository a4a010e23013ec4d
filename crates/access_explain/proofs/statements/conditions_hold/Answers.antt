use Rattle.std.proofs.Common.{rules}
use Rattle.policy_eval.specs.Matching.{ConditionsHold}
use Rattle.access_explain.proofs.statements.conditions_hold.Goals as goal

pub returns : goal.returns
unfolding ConditionsHold
returns c = search rules
