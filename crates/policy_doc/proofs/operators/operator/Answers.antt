use Rattle.policy_doc.proofs.OperatorFacts.{operator_is}
use Rattle.policy_doc.proofs.operators.operator.Goals as goal

pub returns : goal.returns
returns c = operator_is c.args.name.now c.read_operator.result c.read_operator.ensures
