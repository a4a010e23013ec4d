-- A reply on its way out.
use Rattle.std.specs.Prelude.{◌≡◌, ℕ, List, Bool, length}
use Rattle.kms_io.specs.Wire.{Wire}
use Rattle.published_account.specs.Answers.{Answer, answer_in}
use Rattle.kms_session.specs.Answers.{IsReplyText}
use Rattle.published_account.specs.declared.answered.Answered.{Answered}
use Rattle.publish_pass.specs.Pass.{Pass}
use Rattle.kms_session.specs.Run.{Plan, Answers}
use Rattle.session_front.specs.Sending.{SendsWhole, SendsShort}

-- the text of this answer was written
pub record SendsReply (answer : Answer) (second front : ℕ) (closes : Bool) (old new : Wire) : Type 0 where
  pub text : List ℕ
  pub is : IsReplyText answer second front closes text
  pub sends : SendsWhole old new text

-- a front of it was written, and then the link failed
pub record SendsReplyShort (answer : Answer) (second front : ℕ) (closes : Bool) (old new : Wire) : Type 0 where
  pub text : List ℕ
  pub is : IsReplyText answer second front closes text
  pub short : SendsShort old new text

-- this is what a pass hands on as the answer to a plan, with the number of entries that it stands on
pub record Gives (s : Pass) (plan : Plan) (a : Answered) (t : Pass) : Type 0 where
  pub answers : Answers s plan (answer_in a) t
  pub front : a.front ≡ length t.history
