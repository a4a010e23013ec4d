use Rattle.std.specs.Prelude.{codes}
use Rattle.std.proofs.lemmas.Str.Pattern.{contains_text}
use Rattle.policy_doc.proofs.FormFacts.{variable_is}
use Rattle.policy_doc.proofs.forms.has_variable.Goals as goal

pub returns : goal.returns
returns c = variable_is _ _ (contains_text c.contains.result (codes "${") c.args.text.now c.contains.ensures.cases)
