-- One look at the published account.
use Rattle.std.specs.Prelude.{◌≡◌, ◌<◌, ◌≤◌, ◌⊎◌, ℕ, List, length, Result, Ok, Err}
use Rattle.draw_lines.specs.Line.{Line}
use Rattle.kms_names.specs.declared.faults.NoMemory.{NoMemory}
use Rattle.kms_json.specs.declared.asks.Ask.{Ask}
use Rattle.account_steps.specs.declared.facts.RealmFacts.{RealmFacts}
use Rattle.account_steps.specs.History.{Entry}
use Rattle.account_steps.specs.Places.{IsWithin, places_of, line_at}
use Rattle.account_core.specs.Decide.{decide}
use Rattle.published_account.specs.declared.answered.Answered.{Answered}
use Rattle.published_account.specs.Answers.{answer_of, answer_in}

-- the answer at these entries, and where it leaves the line of draws
pub record AnswersAt (facts : RealmFacts) (entries : List Entry) (x : Ask) (old : Line) (a : Answered) (new : Line) : Type 0 where
  pub answer : answer_in a ≡ answer_of (decide facts entries x (places_of old)).reply
  pub front : a.front ≡ length entries
  pub used : new ≡ line_at old (decide facts entries x (places_of old)).places

-- for want of memory the line has gone on at most as far
abbrev pub Settles : RealmFacts → List Entry → Ask → Line → Result Answered NoMemory → Line → Type 0
Settles facts entries x old (Ok a) new = AnswersAt facts entries x old a new
Settles facts entries x old (Err why) new = IsWithin old new (decide facts entries x (places_of old)).places

-- the count rose, or stands at the last value of its type. It never falls
abbrev pub Rose : ℕ → ℕ → Type 0
Rose m n = (m ≤ n) × ((m < n) ⊎ (n ≡ 18446744073709551615))
