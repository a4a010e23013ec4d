use Rattle.session_front.proofs.Complete.{each_is_answered}
use Rattle.session_front.proofs.OneEnds.{one_end}
use Rattle.kms_session.specs.Run.{turns}
use Rattle.kms_session.proofs.session.serve_session.Goals as goal

pub returns-clause-complete : goal.returns-clause-complete
returns-clause-complete g c = each_is_answered (turns g.K.Keeps.keeps c.args.trust.now) _ c.serve_messages.result _ _ c.serve_messages.ensures

pub returns-clause-one : goal.returns-clause-one
returns-clause-one g c = one_end (turns g.K.Keeps.keeps c.args.trust.now) _ _
