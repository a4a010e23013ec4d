use Rattle.kms_program.proofs.Callers.{named_if}
use Rattle.kms_program.proofs.settings.read_caller.Goals as goal

pub returns-in-Ok : goal.returns-in-Ok
returns-in-Ok c = named_if c.args.account.now c.args.text.now c.in-Ok.principal c.in-Ok.ensures.ok.0 c.in-Ok.ensures.ok.1 c.if_of_account.result c.if_of_account.ensures
