-- Messages of a workload.
use Rattle.std.proofs.Common.{◌≡◌, ◌≤◌, ◌+◌, ℕ, List, [], ◌++◌, length, Result, IfOk, refl, sym, ap, ◌∙◌, subst, add-one, append_assoc}
use Rattle.std.specs.Prelude.{if◌then◌else◌}
use Rattle.std.proofs.lemmas.Bool.{le-ltb}
use Rattle.serde_json.specs.Written.{compact_text}
use Rattle.kms_names.specs.declared.faults.NoMemory.{NoMemory}
use Rattle.kms_workload.specs.declared.words.Words.{Words}
use Rattle.kms_workload.specs.declared.requests.Request.{Request}
use Rattle.kms_workload.specs.Words.{words_of}
use Rattle.kms_workload.specs.Requests.{Asked, IsRequest, asked_of, creates}
use Rattle.kms_workload.specs.Workload.{head_text, message_of, asked_at, workload_of}

-- from message 8 on the words choose
asked_late : (seed n : ℕ) → 8 ≤ n → asked_at seed n ≡ asked_of n (words_of seed n)
asked_late seed n late = ap (λ b. if b then creates else asked_of n (words_of seed n)) (le-ltb n 8 late)

pub request_late : (seed n : ℕ) (words : Words) (r : Result Request NoMemory) → 8 ≤ n → words ≡ words_of seed n → IfOk r (IsRequest (asked_of n words))
    → IfOk r (IsRequest (asked_at seed n))
request_late seed n words r late are h = subst (λ (a : Asked). IfOk r (IsRequest a)) (ap (asked_of n) are ∙ sym (asked_late seed n late)) h

pub message_added : (asked : Asked) (operation body head old both all : List ℕ) (size : ℕ) → operation ≡ asked.operation → body ≡ compact_text asked.body
    → size ≡ length body → head ≡ head_text operation size → both ≡ old ++ head → all ≡ both ++ body → all ≡ old ++ message_of asked
message_added asked operation body head old both all size is says sized headed first behind =
    let e : head ≡ head_text asked.operation (length (compact_text asked.body)) = headed ∙ ap (λ (o : List ℕ). head_text o size) is ∙ ap (head_text asked.operation) (sized ∙ ap length says) in
    behind ∙ ap (λ (b : List ℕ). b ++ body) first ∙ append_assoc old head body ∙ ap (λ (h : List ℕ). old ++ (h ++ body)) e
    ∙ ap (λ (b : List ℕ). old ++ (head_text asked.operation (length (compact_text asked.body)) ++ b)) says

pub no_messages : (seed : ℕ) → [] ≡ workload_of seed 0
unfolding workload_of
no_messages seed = refl

pub one_message : (seed n : ℕ) (old new : List ℕ) → old ≡ workload_of seed n → new ≡ old ++ message_of (asked_at seed n) → new ≡ workload_of seed (n + 1)
unfolding workload_of
one_message seed n old new is more = rw add-one (more ∙ ap (λ (o : List ℕ). o ++ message_of (asked_at seed n)) is)
