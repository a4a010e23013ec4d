-- What is written as answers, to the byte.
use Rattle.std.specs.Prelude.{◌≡◌, ℕ, List, ◌++◌, codes, length, Bool}
use Rattle.http_front.specs.declared.judge.HttpFault.{HttpFault}
use Rattle.http_front.specs.declared.judge.HttpFault.TheVariants.{BadHead, NotPost, NotRoot, Chunked, TwoLengths, NoLength, TooLong}
use Rattle.http_front.specs.Head.{IsHead}
use Rattle.published_account.specs.Answers.{Answer}

-- the status (RFC 9110, section 15) and the name of a fault
abbrev pub status_of : HttpFault → ℕ
status_of BadHead = 400
status_of NotPost = 405
status_of NotRoot = 404
status_of Chunked = 501
status_of TwoLengths = 400
status_of NoLength = 411
status_of TooLong = 413

abbrev pub name_of : HttpFault → List ℕ
name_of BadHead = codes "BadHead"
name_of NotPost = codes "NotPost"
name_of NotRoot = codes "NotRoot"
name_of Chunked = codes "Chunked"
name_of TwoLengths = codes "TwoLengths"
name_of NoLength = codes "NoLength"
name_of TooLong = codes "TooLong"

-- the answer to bytes that are refused
abbrev pub fault_answer : HttpFault → Answer
fault_answer why = record { status = status_of why; body = codes "{\"__type\":\"HttpFault\",\"message\":\"" ++ name_of why ++ codes "\"}" }

-- the text of a reply: the head, and then the body
pub record IsReplyText (answer : Answer) (second front : ℕ) (closes : Bool) (text : List ℕ) : Type 0 where
  pub head : List ℕ
  pub is_head : IsHead answer.status (length answer.body) second front closes head
  pub whole : text ≡ head ++ answer.body

-- the reply for want of memory
abbrev pub five_hundred : List ℕ
five_hundred = codes "HTTP/1.1 500 Internal Server Error\r\nContent-Type: application/x-amz-json-1.1\r\nContent-Length: 61\r\n\r\n{\"__type\":\"KMSInternalException\",\"message\":\"Want of memory.\"}"

-- the reply to a change that couldn't be kept
abbrev pub not_kept : List ℕ
not_kept = codes "HTTP/1.1 500 Internal Server Error\r\nContent-Type: application/x-amz-json-1.1\r\nContent-Length: 68\r\n\r\n{\"__type\":\"KMSInternalException\",\"message\":\"The change isn't kept.\"}"
