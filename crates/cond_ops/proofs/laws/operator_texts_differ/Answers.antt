use Rattle.cond_ops.proofs.OperatorFacts.{texts_differ}
use Rattle.cond_ops.proofs.laws.operator_texts_differ.Goals as goal

pub returns : goal.returns
returns c = texts_differ
