use Rattle.std.proofs.lemmas.Bool.Decides.{same_from_decides}
use Rattle.policy_doc.specs.Operators.{is_value_text}
use Rattle.policy_doc.proofs.ValueFacts.{value_decides}
use Rattle.policy_doc.proofs.operators.takes_value.Goals as goal

pub returns : goal.returns
returns c = same_from_decides c.is_value.result (is_value_text c.args.operator c.args.text.now) c.is_value.ensures (value_decides c.args.operator c.args.text.now)
