-- What came of a workload.
use Rattle.std.specs.Prelude.{◌≡◌, ◌≤◌, ℕ, List, length}
use Rattle.sha2.specs.Sha256.{sha256}
use Rattle.publish_pass.specs.Pass.{Pass}
use Rattle.kms_workload.specs.declared.run.Tally.{Tally}
use Rattle.kms_workload.specs.Replies.{served_in}
use Rattle.kms_workload.specs.Summary.{IsSessionOf}

-- the numbers and the digest of a session over the workload
pub record Tallies (seed requests : ℕ) (tally : Tally) : Type 0 where
  pub pass : Pass
  pub text : List ℕ
  pub statuses : List ℕ
  pub session : IsSessionOf seed requests pass text statuses
  pub served : tally.served ≡ served_in statuses
  pub bound : tally.served ≤ requests
  pub front : tally.front ≡ length pass.history
  pub digest : tally.digest ≡ sha256 text
