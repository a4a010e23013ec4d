use Rattle.std.proofs.Common.{refl}
use Rattle.publish_pass.proofs.Meeting.{changed_if}
use Rattle.publish_pass.proofs.service.try_change.Goals as goal

pub returns-then-meet-clause-answer : goal.returns-then-meet-clause-answer
returns-then-meet-clause-answer g c =
    let alone = c.if-meet.ensures.alone refl in
    changed_if _ _ _ c.if-meet.ensures.learns alone.0 alone.1 c.args.ask.now c.change-answered.result _ c.change-answered.ensures.ok
