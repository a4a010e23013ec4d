-- A session as a run of turns over what is due.
use Rattle.std.specs.Prelude.{◌≡◌, ℕ, List, length, Bool, true, false, IsTrue, Result, Ok, Err}
use Rattle.kms_json.specs.declared.asks.Ask.{Ask}
use Rattle.kms_json.specs.declared.replies.Reply.{Reply}
use Rattle.kms_json.specs.declared.replies.Reply.TheVariants.{Refused}
use Rattle.kms_json.specs.declared.refusals.Refusal.{Refusal}
use Rattle.kms_json.specs.Asks.{changes_account}
use Rattle.session_front.specs.declared.trust.Trust.{Trust}
use Rattle.session_front.specs.Early.{ask_of}
use Rattle.session_front.specs.Runs.{Run}
use Rattle.session_front.specs.Items.{Item, whole, fault}
use Rattle.published_account.specs.Answers.{Answer, answer_of}
use Rattle.kms_session.specs.Answers.{fault_answer, IsReplyText, five_hundred, not_kept}
use Rattle.publish_pass.specs.Pass.{Pass, Reads, Changes, Wants, WantsChange}

-- what an item comes to: an answer that no history decides, or a request of the account
pub data Plan : Type 0 where
  answered : Answer → Plan
  asks : Ask → Plan

abbrev pub plan_by : Result Ask Refusal → Plan
plan_by (Ok x) = asks x
plan_by (Err why) = answered (answer_of (Refused why))

-- what an item comes to at a service of this region
abbrev pub plan_of : Trust → List ℕ → Item → ℕ → Plan
plan_of trust region (whole m) c = plan_by (ask_of trust region m c)
plan_of trust region (fault why) c = answered (fault_answer why)

-- the answer to a plan, and what the pass holds afterwards
pub data Answers (s : Pass) (plan : Plan) (answer : Answer) (t : Pass) : Type 0 where
  early : plan ≡ answered answer → t ≡ s → Answers s plan answer t
  reads : (x : Ask) (reply : Reply) → plan ≡ asks x → changes_account x.body ≡ false → Reads s x reply t → answer ≡ answer_of reply → Answers s plan answer t
  changes : (x : Ask) (reply : Reply) → plan ≡ asks x → changes_account x.body ≡ true → Changes s x reply t → answer ≡ answer_of reply → Answers s plan answer t

-- What a pass holds after the reply for want of memory: what it held; or for a reading request what it has learnt of the history and
-- what that may have used; or for a changing one the whole history, at most with the entry of housekeeping.
pub data Wanting (s : Pass) (plan : Plan) (t : Pass) : Type 0 where
  wants_nothing : t ≡ s → Wanting s plan t
  wants_read : (x : Ask) → plan ≡ asks x → changes_account x.body ≡ false → Wants s x t → Wanting s plan t
  wants_change : (x : Ask) → plan ≡ asks x → changes_account x.body ≡ true → WantsChange s x t → Wanting s plan t

-- a change that couldn't be kept beyond the process, where the service keeps its changes: at most the entry of housekeeping was made
pub record Unkept (keeps : Bool) (s : Pass) (plan : Plan) (t : Pass) : Type 0 where
  pub does : IsTrue keeps
  pub ask : Ask
  pub asked : plan ≡ asks ask
  pub changes : changes_account ask.body ≡ true
  pub left : WantsChange s ask t

-- The plan is answered, with the number of entries that the answer stands on, or the reply is the one for want of memory, or that of a
-- change that couldn't be kept.
pub data Replies (keeps : Bool) (s : Pass) (plan : Plan) (c : ℕ) (closes : Bool) (text : List ℕ) (t : Pass) : Type 0 where
  answers : (answer : Answer) → Answers s plan answer t → IsReplyText answer c (length t.history) closes text → Replies keeps s plan c closes text t
  wants_memory : Wanting s plan t → text ≡ five_hundred → Replies keeps s plan c closes text t
  isnt_kept : Unkept keeps s plan t → text ≡ not_kept → Replies keeps s plan c closes text t

-- one turn of a session of a service that keeps its changes, or doesn't
abbrev pub Turn : Bool → Pass → Trust → Item → ℕ → Bool → List ℕ → Pass → Type 0
Turn keeps s trust item c closes text t = Replies keeps s (plan_of trust s.facts.region item c) c closes text t

-- A run of turns over the items in order, each with its answer of the clock, which is before the year 10000. The text is the
-- replies joined.
abbrev pub turns : Bool → Trust → Pass → Item → ℕ → Bool → List ℕ → Pass → Type 0
turns keeps trust s item c closes text t = Turn keeps s trust item c closes text t

abbrev pub SessionRun : Bool → Pass → Trust → Pass → List Item → List ℕ → List ℕ → Type 0
SessionRun keeps start trust t items clocks text = Run (turns keeps trust) start t items clocks text
