use Rattle.kms_program.proofs.Sending.{both_sent}
use Rattle.kms_program.proofs.lines.send_both.Goals as goal

pub returns : goal.returns
returns g c = both_sent c.send-2.result _ _ _ c.args.first.now c.args.second.now c.if-not-send.ensures c.send-2.ensures
