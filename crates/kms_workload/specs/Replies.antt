-- The replies of a session, as its text shows them.
use Rattle.std.specs.Prelude.{◌≡◌, ℕ, ◌+◌, List, [], ◌∷◌, ◌++◌, Bool, ◌==◌, if◌then◌else◌}
use Rattle.published_account.specs.Answers.{Answer}
use Rattle.kms_session.specs.Answers.{IsReplyText, five_hundred}

-- the text of one reply with this status: an answer at some second, or the reply for want of memory
pub data IsReply (status : ℕ) (text : List ℕ) : Type 0 where
  replies : (answer : Answer) (second front : ℕ) (closes : Bool) → IsReplyText answer second front closes text → status ≡ answer.status → IsReply status text
  wants : text ≡ five_hundred → status ≡ 500 → IsReply status text

-- the text is replies with these statuses, one behind another
pub data AreReplies : List ℕ → List ℕ → Type 0 where
  no_reply : AreReplies [] []
  one_reply : {status : ℕ} {statuses more text : List ℕ} (reply : List ℕ) → IsReply status reply → AreReplies more statuses → text ≡ reply ++ more
      → AreReplies text (status ∷ statuses)

-- how many of them are served, which have the status 200 (RFC 9110, section 15.3.1)
abbrev pub served_in : List ℕ → ℕ
served_in [] = 0
served_in (status ∷ statuses) = if status == 200 then 1 + served_in statuses else served_in statuses
