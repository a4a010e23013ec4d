use Rattle.std.proofs.Common.{◌∙◌}
use Rattle.kms_workload.proofs.MessageLemmas.{no_messages, one_message}
use Rattle.kms_workload.proofs.messages.messages.Goals as goal

pub loop-number-init : goal.loop-number-init
loop-number-init c = c.new-messages.ensures.items ∙ no_messages c.args.seed

pub loop-number-preserved : goal.loop-number-preserved
loop-number-preserved c = one_message c.args.seed c.loop-number.number c.loop-number.messages.items _ c.loop-number.invariant c.in_ok-add_message.ensures
