use Rattle.kms_session.proofs.ReplyLemmas.{gives_if, wants_if, unkept_if}
use Rattle.kms_session.proofs.session.answer_ask.Goals as goal

pub returns-then-changes-clause-answer : goal.returns-then-changes-clause-answer
returns-then-changes-clause-answer g c = gives_if c.change.result c.args.pass.now c.change.new.self c.args.ask.now c.if-changes.ensures c.change.ensures.answer

pub returns-then-changes-clause-wants : goal.returns-then-changes-clause-wants
returns-then-changes-clause-wants g c = wants_if c.change.result c.args.pass.now c.change.new.self c.args.ask.now c.if-changes.ensures c.change.ensures.wants

pub returns-then-changes-clause-unkept : goal.returns-then-changes-clause-unkept
returns-then-changes-clause-unkept g c = unkept_if g.K.Keeps.keeps c.change.result c.args.pass.now c.change.new.self c.args.ask.now c.if-changes.ensures c.change.ensures.unkept c.change.ensures.wants
