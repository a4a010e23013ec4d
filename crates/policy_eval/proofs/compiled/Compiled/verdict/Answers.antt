use Rattle.policy_eval.proofs.VerdictFacts.{the_verdict}
use Rattle.policy_eval.proofs.compiled.Compiled.verdict.Goals as goal

pub returns-clause-one : goal.returns-clause-one
returns-clause-one c = the_verdict c.args.self.now c.args.facts.now c.judged.result c.judged.ensures
