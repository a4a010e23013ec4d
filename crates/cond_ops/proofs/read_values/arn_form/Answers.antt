use Rattle.cond_ops.proofs.ArnFacts.{parts_of_like}
use Rattle.cond_ops.proofs.read_values.arn_form.Goals as goal

pub returns-in-None : goal.returns-in-None
returns-in-None c = λ policy like. let parts = parts_of_like 5 c.args.value.now policy like in c.in-None.ensures parts.0 parts.1
