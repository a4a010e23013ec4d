-- What a request is answered, as a status and a body.
use Rattle.std.specs.Prelude.{ℕ, List}
use Rattle.serde_json.specs.Written.{compact_text}
use Rattle.kms_json.specs.declared.replies.Reply.{Reply}
use Rattle.kms_json.specs.Replies.{status_of, reply_data}
use Rattle.published_account.specs.declared.answered.Answered.{Answered}

-- the status and the body
pub record Answer : Type 0 where
  pub status : ℕ
  pub body : List ℕ

abbrev pub answer_of : Reply → Answer
answer_of reply = record { status = status_of reply; body = compact_text (reply_data reply) }

-- the answer that a pass hands on
abbrev pub answer_in : Answered → Answer
answer_in a = record { status = a.status; body = a.body }
