use Rattle.std.proofs.Common.{sym, ◌∙◌}
use Rattle.policy_doc.proofs.OperatorFacts.{unserved_error}
use Rattle.policy_doc.proofs.operators.named_operator.Goals as goal

pub returns-then-is_known : goal.returns-then-is_known
returns-then-is_known c = unserved_error c.args.name.now (sym c.is_known.ensures ∙ c.if-is_known.true)
