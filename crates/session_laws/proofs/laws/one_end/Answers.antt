use Rattle.session_front.proofs.OneEnds.{one_end}
use Rattle.kms_session.specs.Run.{turns}
use Rattle.session_laws.proofs.laws.one_end.Goals as goal

pub returns : goal.returns
returns c = λ keeping trust old new told. one_end (turns keeping trust) old new told
