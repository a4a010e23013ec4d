use Rattle.std.proofs.Common.{ℕ, List, ◌++◌, ap, ◌∙◌, subst}
use Rattle.session_front.specs.Sending.{SendsWhole, SendsShort}
use Rattle.kms_session.proofs.ReplyLemmas.{head_short, body_sent, joined_sent}
use Rattle.kms_session.proofs.outbox.send_reply.Goals as goal

pub returns-then-not-send : goal.returns-then-not-send
returns-then-not-send g c =
    head_short (record { status = c.args.status; body = c.args.body.now }) c.args.second c.args.front c.args.closes c.write_head-head.result _ _ c.write_head-head.ensures
    (subst (SendsShort _ _) c.bytes-2.ensures c.if-not-send.ensures)

pub returns : goal.returns
returns g c =
    body_sent c.send-3.result (record { status = c.args.status; body = c.args.body.now }) c.args.second c.args.front c.args.closes c.write_head-head.result _ _ _ c.write_head-head.ensures
    (subst (SendsWhole _ _) c.bytes-2.ensures c.if-not-send.ensures) c.send-3.ensures

pub returns-in-Some : goal.returns-in-Some
returns-in-Some g c =
    joined_sent c.send.result (record { status = c.args.status; body = c.args.body.now }) c.args.second c.args.front c.args.closes c.write_head-head.result _ _ _ c.write_head-head.ensures
    (c.in-Some.ensures.1 ∙ ap (λ (head : List ℕ). head ++ c.args.body.now) c.bytes.ensures) c.send.ensures
