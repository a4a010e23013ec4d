-- The messages of a workload, in order.
use Rattle.std.specs.Prelude.{ℕ, zero, suc, List, [], ◌++◌, codes, decimal, length, nat_lt, if◌then◌else◌}
use Rattle.serde_json.specs.Written.{compact_text}
use Rattle.kms_workload.specs.Words.{words_of}
use Rattle.kms_workload.specs.Requests.{Asked, creates, asked_of}

-- the head of a message with a body of so many bytes: four lines and Content-Length, and the empty line (RFC 9112, section 2.1)
abbrev pub head_text : List ℕ → ℕ → List ℕ
head_text operation size = codes "POST / HTTP/1.1\r\nHost: localhost\r\nContent-Type: application/x-amz-json-1.1\r\nX-Amz-Target: TrentService."
    ++ (operation ++ (codes "\r\nContent-Length: " ++ (decimal size ++ codes "\r\n\r\n")))

-- a message that asks this, its body in compact JSON
abbrev pub message_of : Asked → List ℕ
message_of asked = let body = compact_text asked.body in head_text asked.operation (length body) ++ body

-- what the message of this number asks: the first eight make a key each
abbrev pub asked_at : ℕ → ℕ → Asked
asked_at seed n = if nat_lt n 8 then creates else asked_of n (words_of seed n)

-- the first so many messages
unfoldable pub workload_of : ℕ → ℕ → List ℕ
workload_of seed zero = []
workload_of seed (suc n) = workload_of seed n ++ message_of (asked_at seed n)
