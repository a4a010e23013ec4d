use Rattle.std.proofs.Common.{subst}
use Rattle.published_account.specs.declared.answered.Unread.{Unread}
use Rattle.publish_pass.specs.Pass.{LacksRead}
use Rattle.kms_session.proofs.ReplyLemmas.{gives_read, wants_reading}
use Rattle.kms_session.proofs.session.answer_read.Goals as goal

pub returns-in-Ok-clause-answer : goal.returns-in-Ok-clause-answer
returns-in-Ok-clause-answer g c = gives_read c.args.pass.now c.loop.pass c.read.new.self c.args.ask.now c.in-Ok.answered c.requires.reads c.loop.invariant.2 c.in-Ok.ensures.answer

pub returns-in-Err-NoMemory-clause-wants : goal.returns-in-Err-NoMemory-clause-wants
returns-in-Err-NoMemory-clause-wants g c =
    let lacks = subst (λ (why : Unread). LacksRead c.loop.pass c.args.ask.now why c.read.new.self) c.in-Err-NoMemory.field-0-is c.in-Err-NoMemory.ensures.lacks in
    wants_reading c.args.pass.now c.loop.pass c.read.new.self c.args.ask.now c.requires.reads c.loop.invariant.2 lacks
