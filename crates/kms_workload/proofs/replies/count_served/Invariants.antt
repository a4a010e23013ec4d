use Rattle.std.proofs.Common.{◌≤◌, ℕ, List}
use Rattle.kms_workload.specs.Replies.{AreReplies}
use Rattle.kms_workload.proofs.ReplyLemmas.{IsLeft}
use Rattle.kms_workload.proofs.replies.count_served.Given as goal

abbrev pub invariant-loop : goal.invariant-loop
invariant-loop l = record { bound : l.served ≤ l.counter; left : (statuses : List ℕ) → AreReplies l.text statuses → IsLeft statuses l.rest l.counter l.served }
