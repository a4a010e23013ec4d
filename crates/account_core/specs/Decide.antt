-- What the account of one thread answers.
use Rattle.std.specs.Prelude.{◌≡◌, ◌==◌, ◌<◌, ℕ, List, [], ◌∷◌, ◌++◌, length, nat_lt, if◌then◌else◌, Option, Some, None, Result, Ok, Err}
use Rattle.kms_names.specs.Moment.{year_10000}
use Rattle.kms_json.specs.declared.asks.Ask.{Ask}
use Rattle.kms_json.specs.declared.asks.AskBody.{AskBody}
use Rattle.kms_json.specs.declared.asks.AskBody.TheVariants as ask
use Rattle.kms_json.specs.declared.asks.Changing.{Changing}
use Rattle.kms_json.specs.declared.asks.Reading.{Reading}
use Rattle.kms_json.specs.declared.replies.Reply.{Reply}
use Rattle.kms_json.specs.declared.refusals.Refusal.{Refusal}
use Rattle.kms_json.specs.declared.refusals.Refusal.TheVariants.{DependencyTimeout}
use Rattle.kms_json.specs.Asks.{asked}
use Rattle.kms_json.specs.Replies.{status_of}
use Rattle.kms_names.specs.Principal.{account_of}
use Rattle.account_steps.specs.declared.facts.RealmFacts.{RealmFacts}
use Rattle.account_rows.specs.declared.entries.Entry.{Entry}
use Rattle.account_core.specs.declared.decide.Decision.{Decision}
use Rattle.account_core.specs.declared.decide.Decision.TheVariants as decision
use Rattle.account_steps.specs.Places.{no_places}
use Rattle.account_steps.specs.declared.places.Places.{Places}
use Rattle.account_rows.specs.History.{housekeeping_of}
use Rattle.account_steps.specs.Steps.{unless}
use Rattle.account_steps.specs.View.{View, view_of}
use Rattle.account_steps.specs.Parts.{Decided, decided_read, decided_change}
use Rattle.account_steps.specs.declared.questions.Question.{Question as Posed}
use Rattle.account_core.specs.declared.asking.Asked.{Asked}
use Rattle.account_core.specs.declared.asking.Asked.TheVariants as asked
use Rattle.account_core.specs.Operations.{change_outcome, read_outcome, change_asked, read_asked}

-- the history has fewer entries than the request asks for
abbrev pub lacking : ℕ → Option ℕ → Option Refusal
lacking entries None = None
lacking entries (Some wanted) = if nat_lt entries wanted then Some (DependencyTimeout entries wanted) else None

-- the wait for entries, and then the steps of the operation; one that changes the account goes by no places of the pass
abbrev pub decide_change : RealmFacts → List Entry → Ask → Changing → Places → Decided
decide_change facts history x body places =
    decided_change (view_of facts history x no_places).moment (unless (lacking (length history) x.after) (change_outcome (view_of facts history x no_places) body)) places

abbrev pub decide_read : RealmFacts → List Entry → Ask → Reading → Places → Decided
decide_read facts history x body places = decided_read (unless (lacking (length history) x.after) (read_outcome (view_of facts history x places) body)) places

abbrev pub decide_body : RealmFacts → List Entry → Ask → AskBody → Places → Decided
decide_body facts history x (ask.Change body) places = decide_change facts history x body places
decide_body facts history x (ask.Read body) places = decide_read facts history x body places

-- what the account answers to a request at this history, for a pass at these places
unfoldable pub decide : RealmFacts → List Entry → Ask → Places → Decided
decide facts history x places = decide_body facts history x x.body places

-- the same in the form in which a changing request is answered, which takes no places
abbrev pub decision_by : Reply → Option Entry → Decision
decision_by reply (Some entry) = decision.Change entry reply
decision_by reply None = if status_of reply == 200 then decision.Served reply else decision.Refused reply

abbrev pub decision_of : RealmFacts → List Entry → Ask → Decision
decision_of facts history x = decision_by (decide facts history x no_places).reply (decide facts history x no_places).entry

-- the body is one that some request asks, the caller is of the account, and the clock's answer is before the year 10000
pub record IsProper (facts : RealmFacts) (x : Ask) : Type 0 where
  pub target : List ℕ
  pub text : List ℕ
  pub body : asked target text ≡ Ok x.body
  pub caller : account_of x.caller ≡ facts.account
  pub moment : x.moment < year_10000

-- the entry is one that a proper request appends to this history, or that housekeeping appends at a clock's answer
pub data IsNext (facts : RealmFacts) (history : List Entry) (entry : Entry) : Type 0 where
  appended : (request : Ask) → IsProper facts request → (decide facts history request no_places).entry ≡ Some entry → IsNext facts history entry
  kept : (clock : ℕ) → clock < year_10000 → housekeeping_of history clock ≡ Some entry → IsNext facts history entry

-- each entry is one that may come next after the entries before it
pub data IsLawful (facts : RealmFacts) : List Entry → Type 0 where
  empty : IsLawful facts []
  longer : {history : List Entry} (entry : Entry) → IsLawful facts history → IsNext facts history entry → IsLawful facts (history ++ entry ∷ [])

-- ---- what is asked of authority

abbrev pub asked_of_body : View → AskBody → Result (List Posed) Refusal
asked_of_body view (ask.Change body) = change_asked view body
asked_of_body view (ask.Read body) = read_asked view body

abbrev pub asked_by : Result (List Posed) Refusal → Asked
asked_by (Ok questions) = asked.Questions questions
asked_by (Err why) = asked.Early

-- what the step of authority asks about a request at this history: nothing where the history is too short, or something that is named isn't there
unfoldable pub asked_at : RealmFacts → List Entry → Ask → Asked
asked_at facts history x = asked_by (unless (lacking (length history) x.after) (asked_of_body (view_of facts history x no_places) x.body))
