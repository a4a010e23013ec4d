use Rattle.std.proofs.Common.{ℕ, List, subst, true, refl, ap₂}
use Rattle.std.specs.Bool.{MatchBool}
use Rattle.published_account.specs.Answers.{Answer}
use Rattle.kms_session.specs.Answers.{fault_answer}
use Rattle.kms_session.specs.Run.{answered, early}
use Rattle.kms_session.specs.Replying.{SendsReply, SendsReplyShort}
use Rattle.kms_session.proofs.ReplyLemmas.{replied}
use Rattle.kms_session.proofs.session.respond_fault.Goals as goal

pub returns : goal.returns
returns g c =
    let old = g.L.Link.shows c.args.link.now in
    let new = g.L.Link.shows c.send_reply.new.link in
    let P : Answer → Type 0 = λ answer. MatchBool c.send_reply.result (SendsReply answer c.args.now c.seen.result true old new) (SendsReplyShort answer c.args.now c.seen.result true old new) in
    let same = ap₂ (λ (status : ℕ) (body : List ℕ). let a : Answer = record { status = status; body = body } in a) c.fault_status.ensures c.fault_body.ensures in
    replied g.K.Keeps.keeps c.send_reply.result c.args.pass.now (answered (fault_answer c.args.fault)) (fault_answer c.args.fault) c.args.now c.seen.result true old new c.args.pass.now
    (early refl refl) c.seen.ensures.number (subst P same c.send_reply.ensures)
