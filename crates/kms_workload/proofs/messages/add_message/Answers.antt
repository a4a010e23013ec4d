use Rattle.std.proofs.Common.{◌∙◌, sym}
use Rattle.kms_workload.specs.Workload.{asked_at}
use Rattle.kms_workload.proofs.MessageLemmas.{message_added}
use Rattle.kms_workload.proofs.messages.add_message.Goals as goal

pub returns : goal.returns
returns c =
    let request = c.in_ok-request.ensures in
    message_added (asked_at c.args.seed c.args.number) _ c.deref.result.now c.as_bytes.result.now c.args.messages.now.items c.extend_from_slice.new.self.items
    c.extend_from_slice-2.new.self.items c.len.result request.operation (c.deref.ensures.value ∙ request.body) (c.len.ensures ∙ sym c.deref.ensures.len) (c.as_bytes.ensures.value ∙ c.in_ok-head.ensures)
    c.in_ok-extend_from_slice.ensures.items c.in_ok-extend_from_slice-2.ensures.items
