-- What a workload comes to.
use Rattle.std.specs.Prelude.{◌≡◌, ℕ, ◌-◌, List, [], ◌++◌, length, codes, decimal, Bool, false}
use Rattle.hex.specs.Hex.{encode_lower}
use Rattle.sha2.specs.Sha256.{sha256}
use Rattle.publish_pass.specs.Pass.{Pass, fresh_pass, first_places}
use Rattle.session_front.specs.Items.{Item, Cuts}
use Rattle.kms_session.specs.Run.{SessionRun}
use Rattle.kms_workload.specs.Facts.{load_facts, load_trust}
use Rattle.kms_workload.specs.Seconds.{seconds_of}
use Rattle.kms_workload.specs.Workload.{workload_of}
use Rattle.kms_workload.specs.Replies.{AreReplies, served_in}

-- five lines: how many messages were asked, how many replies have the status 200 and how many another, how many entries the history has,
-- and the digest of all that was written
abbrev pub summary_of : ℕ → ℕ → ℕ → ℕ → List ℕ → List ℕ
summary_of requests served refused front digest =
    codes "requests " ++ (decimal requests ++ (codes "\nserved " ++ (decimal served ++ (codes "\nrefused " ++ (decimal refused
    ++ (codes "\nfront " ++ (decimal front ++ (codes "\nsha256 " ++ (digest ++ codes "\n")))))))))

-- A session of the account's root over the workload, from an empty history to its end, whose entries are all its own. Of the workload
-- nothing is left, unless a reply closed the session, as the hundred-thousandth does.
pub record IsSessionOf (seed requests : ℕ) (pass : Pass) (text statuses : List ℕ) : Type 0 where
  pub items : List Item
  pub input : List ℕ
  pub rest : List ℕ
  pub unread : List ℕ
  pub closes : Bool
  pub whole : workload_of seed requests ≡ input ++ unread
  pub cuts : Cuts input closes items rest
  pub to_end : closes ≡ false → (rest ≡ []) × (unread ≡ [])
  pub each : length items ≡ requests
  pub run : SessionRun false (fresh_pass load_facts 1 [] 1) load_trust pass items (seconds_of requests) text
  pub made_all : pass.own ≡ first_places (length pass.history)
  pub replies : AreReplies text statuses
  pub counted : length statuses ≡ requests

-- these are the lines of the workload of this seed and so many messages
pub record Summarizes (seed requests : ℕ) (lines : List ℕ) : Type 0 where
  pub pass : Pass
  pub text : List ℕ
  pub statuses : List ℕ
  pub session : IsSessionOf seed requests pass text statuses
  pub are : lines ≡ summary_of requests (served_in statuses) (requests - served_in statuses) (length pass.history) (encode_lower (sha256 text))
