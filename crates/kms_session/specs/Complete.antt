-- Whole messages are answered, each once, and a session ends in one way.
use Rattle.std.specs.Prelude.{◌≡◌, List, Bool}
use Rattle.session_front.specs.declared.ends.SessionEnd.{SessionEnd}
use Rattle.session_front.specs.declared.trust.Trust.{Trust}
use Rattle.session_front.specs.Complete as front
use Rattle.session_front.specs.Items.{Item}
use Rattle.kms_session.specs.Run.{turns}
use Rattle.kms_session.specs.Session.{Outside}

-- the bytes taken before and after are told
abbrev pub TellsTaken : Outside → Outside → Type 0
TellsTaken old new = front.TellsTaken old new

-- No two of the ends that are no faults hold of one session, but for this: a session whose rest no head can come of, or has more
-- than 64 headers, may be cut off or closed.
abbrev pub IsOneEnd : Bool → Trust → Outside → Outside → Type 0
IsOneEnd keeps trust old new = front.IsOneEnd (turns keeps trust) old new

-- what was written are the replies of turns over these items, one for each and in order, and nothing else
abbrev pub AnswersEach : Bool → Trust → List Item → Outside → Outside → Type 0
AnswersEach keeps trust items old new = front.AnswersEach (turns keeps trust) items old new

-- Where nothing disturbs the session, each message that it is asked is answered, and it ends as they say; or it wants memory, and took
-- nothing.
abbrev pub IsComplete : Bool → Trust → SessionEnd → Outside → Outside → Type 0
IsComplete keeps trust end old new = front.IsComplete (turns keeps trust) (new ≡ old) end old new
