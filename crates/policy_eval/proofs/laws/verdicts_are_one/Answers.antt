use Rattle.policy_eval.proofs.VerdictFacts.{one_verdict}
use Rattle.policy_eval.proofs.laws.verdicts_are_one.Goals as goal

pub returns : goal.returns
returns c = one_verdict
