use Rattle.std.proofs.Common.{◌∙◌, ap, Err}
use Rattle.kms_config.proofs.NameFacts.{principal_found, no_principal}
use Rattle.kms_config.proofs.forms.principal_of.Goals as goal

pub returns-in-Ok : goal.returns-in-Ok
returns-in-Ok c = principal_found c.args.text.now c.read_principal.result c.read_principal.ensures.ok c.read_principal.ensures.bad_arn c.read_principal.ensures.faults c.in-Ok.principal c.in-Ok.is

pub returns-in-Err-BadArn : goal.returns-in-Err-BadArn
returns-in-Err-BadArn c =
    no_principal c.args.text.now c.read_principal.result c.read_principal.ensures.ok c.read_principal.ensures.bad_arn c.read_principal.ensures.faults (c.in-Err-BadArn.is ∙ ap Err c.in-Err-BadArn.field-0-is)
