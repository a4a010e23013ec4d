use Rattle.std.proofs.Common.{refl, ap, Err}
use Rattle.session_front.specs.Items.{whole}
use Rattle.kms_session.specs.Run.{plan_of}
use Rattle.kms_session.proofs.ReplyLemmas.{replied_given, wanted, unkept}
use Rattle.kms_session.proofs.session.respond.Goals as goal

pub returns-in-Ok : goal.returns-in-Ok
returns-in-Ok g c = λ m is.
    let plan = plan_of c.args.host.now.trust.now c.args.pass.now.facts.region (whole m) c.args.now in
    replied_given g.K.Keeps.keeps c.send_reply.result c.args.pass.now c.answer_message.new.pass plan plan c.in-Ok.a c.as_slice.result.now c.args.now c.args.closes _ _ refl c.as_slice.ensures (c.in-Ok.ensures.answer m is) c.send_reply.ensures

pub returns-in-Err-NoMemory : goal.returns-in-Err-NoMemory
returns-in-Err-NoMemory g c = λ m is.
    let plan = plan_of c.args.host.now.trust.now c.args.pass.now.facts.region (whole m) c.args.now in
    wanted g.K.Keeps.keeps c.send.result c.args.pass.now plan c.args.now c.args.closes _ _ c.answer_message.new.pass (c.in-Err-NoMemory.ensures.wants m is) c.send.ensures

pub returns-in-Err-Unkept : goal.returns-in-Err-Unkept
returns-in-Err-Unkept g c = λ m is.
    let plan = plan_of c.args.host.now.trust.now c.args.pass.now.facts.region (whole m) c.args.now in
    unkept g.K.Keeps.keeps c.send-in-Err-Unkept.result c.args.pass.now plan c.args.now c.args.closes _ _ c.answer_message.new.pass (c.in-Err-Unkept.ensures.unkept m is (ap Err c.in-Err-Unkept.field-0-is)) c.send-in-Err-Unkept.ensures
