use Rattle.cond_ops.proofs.FormFacts.{both_have_form}
use Rattle.cond_ops.proofs.laws.related_values_have_the_form.Goals as goal

pub returns : goal.returns
returns c = both_have_form
