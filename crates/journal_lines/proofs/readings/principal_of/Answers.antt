use Rattle.std.proofs.Common.{◌∙◌, ap, Err}
use Rattle.journal_lines.proofs.NameFacts.{principal_found, no_principal}
use Rattle.journal_lines.proofs.readings.principal_of.Goals as goal

pub returns-in-Ok : goal.returns-in-Ok
returns-in-Ok c = principal_found c.args.arn.now c.in-Ok.principal c.in-Ok.ensures.ok.0 c.in-Ok.ensures.ok.1

pub returns-in-Err-BadArn : goal.returns-in-Err-BadArn
returns-in-Err-BadArn c = no_principal c.args.arn.now (c.read_principal.ensures.bad_arn (c.in-Err-BadArn.is ∙ ap Err c.in-Err-BadArn.field-0-is))
