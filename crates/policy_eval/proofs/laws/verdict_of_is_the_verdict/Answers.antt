use Rattle.policy_eval.specs.VerdictOf.{verdict_of_lem}
use Rattle.policy_eval.proofs.laws.verdict_of_is_the_verdict.Goals as goal

pub returns : goal.returns
returns c = verdict_of_lem
