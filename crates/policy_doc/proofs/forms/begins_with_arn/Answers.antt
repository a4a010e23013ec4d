use Rattle.std.specs.Prelude.{codes}
use Rattle.std.proofs.lemmas.Str.Pattern.{starts_text}
use Rattle.policy_doc.proofs.forms.begins_with_arn.Goals as goal

pub returns : goal.returns
returns c = starts_text c.starts_with.result (codes "arn:") c.args.text.now c.starts_with.ensures.cases
