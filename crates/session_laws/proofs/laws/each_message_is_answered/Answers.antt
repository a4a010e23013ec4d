use Rattle.std.proofs.Common.{◌≡◌}
use Rattle.session_front.proofs.Complete.{each_is_answered}
use Rattle.kms_session.specs.Run.{turns}
use Rattle.session_laws.proofs.laws.each_message_is_answered.Goals as goal

pub returns : goal.returns
returns c = λ keeping trust end old new is. each_is_answered (turns keeping trust) (new ≡ old) end old new is
