use Rattle.kms_session.proofs.ReplyLemmas.{MissesOnly}
use Rattle.kms_session.proofs.session.answer_read.Given as goal

abbrev pub invariant-loop : goal.invariant-loop
invariant-loop g l =
    (goal.iterator-loop g).can_next l.iterator' × (goal.iterator-loop g).is_finite l.iterator'
    × MissesOnly l.fn.pass l.pass
