-- What is told of the messages of a stream, one line each.
use Rattle.std.specs.Prelude.{◌≡◌, ◌⊎◌, ℕ, List, [], ◌∷◌, ◌++◌, codes, Bool, if◌then◌else◌, Option, None, Some, Result, Ok, Err}
use Rattle.kms_json.specs.declared.asks.Ask.{Ask}
use Rattle.kms_json.specs.declared.refusals.Refusal.{Refusal}
use Rattle.kms_json.specs.declared.replies.Reply.{Reply}
use Rattle.kms_json.specs.declared.replies.Reply.TheVariants as reply
use Rattle.kms_json.specs.Asks.{changes_account}
use Rattle.kms_json.specs.Exceptions.{exception_name}
use Rattle.account_steps.specs.declared.facts.RealmFacts.{RealmFacts}
use Rattle.account_steps.specs.declared.places.Places.{Places}
use Rattle.account_steps.specs.History.{Entry, housekeeping_of}
use Rattle.account_steps.specs.Parts.{Decided}
use Rattle.account_steps.specs.Places.{no_places, IsUpTo}
use Rattle.account_core.specs.Account.{Account}
use Rattle.account_core.specs.Decide.{decide, IsProper}
use Rattle.account_core.specs.Fitting.{IsHeld}
use Rattle.access_explain.specs.declared.certificates.Certificate.{Certificate}
use Rattle.access_explain.specs.Certificates.{IsCertificate, early_one}
use Rattle.access_explain.specs.Lines.{certificate_text}
use Rattle.session_front.specs.declared.trust.Trust.{Trust}
use Rattle.session_front.specs.Items.{Item, whole, fault}
use Rattle.session_front.specs.Early.{ask_of}
use Rattle.session_front.specs.Runs.{Run}

-- an account, as its facts and its entries in order, and what was used of its random stream and of its initialization vectors
pub record Explainer : Type 0 where
  pub facts : RealmFacts
  pub entries : List Entry
  pub places : Places

-- an account that was asked nothing yet, with what the first pass has to use
abbrev pub fresh : Account → Explainer
fresh account = record { facts = account.facts; entries = account.entries; places = no_places }

abbrev pub with_entry : Explainer → Option Entry → Explainer
with_entry s None = s
with_entry s (Some entry) = record s { entries = s.entries ++ entry ∷ [] }

-- after housekeeping at a clock's answer
abbrev pub keeping_house : Explainer → ℕ → Explainer
keeping_house s clock = with_entry s (housekeeping_of s.entries clock)

-- where a request is decided: one that changes the account comes after housekeeping
abbrev pub met_by : Explainer → Ask → Explainer
met_by s x = if changes_account x.body then keeping_house s x.moment else s

-- what the account of one thread answers there
abbrev pub decided : Explainer → Ask → Decided
decided s x = decide s.facts s.entries x s.places

-- and what it then is: its entry, if any, is the last, and it stands at its places
abbrev pub after : Explainer → Ask → Explainer
after s x = record (with_entry s (decided s x).entry) { places = (decided s x).places }

-- the exception of a reply, or `Ok`
abbrev pub exception_in : Reply → List ℕ
exception_in (reply.Refused why) = exception_name why
exception_in other = codes "Ok"

-- a request that is decided here: the reply, and what comes after it
pub record Answers (met : Explainer) (x : Ask) (answer : Reply) (t : Explainer) : Type 0 where
  pub reply : answer ≡ (decided met x).reply
  pub next : t ≡ after met x

-- the line of a request: its certificate at the account where it is decided, with the exception of its reply. The request's caller is of
-- the account, and each entry is one that a request or housekeeping made, or that fitted those before it
pub record ExplainsAt (met : Explainer) (x : Ask) (line : List ℕ) (t : Explainer) : Type 0 where
  pub proper : IsProper met.facts x
  pub held : IsHeld met.facts met.entries
  pub certificate : Certificate
  pub is : IsCertificate met.facts met.entries x certificate
  pub text : line ≡ certificate_text certificate (exception_in (decided met x).reply)
  pub next : t ≡ after met x

-- What is left of an account where memory was wanting for the line of a request that is decided there: the account as it was; or with some of
-- the places used that the reply uses; or as the reply leaves it.
pub data LeavesHere (s : Explainer) (x : Ask) : Explainer → Type 0 where
  untouched : LeavesHere s x s
  partly_used : (places : Places) → IsUpTo s.places places (after s x).places → LeavesHere s x (record s { places = places })
  answered : LeavesHere s x (after s x)

-- the same where housekeeping may come before the request, and memory may be wanting for that
abbrev pub Leaves : Explainer → Ask → Explainer → Type 0
Leaves s x t = (t ≡ s) ⊎ LeavesHere (met_by s x) x t

-- the line of what is refused before the account is asked, by its exception
abbrev pub early_line : List ℕ → List ℕ
early_line exception = certificate_text early_one exception

-- the line of a message, by what it asks
abbrev pub TellsAsk : Explainer → Result Ask Refusal → List ℕ → Explainer → Type 0
TellsAsk s (Ok x) line t = ExplainsAt (met_by s x) x line t
TellsAsk s (Err why) line t = (line ≡ early_line (exception_name why)) × (t ≡ s)

-- the line of an item at this answer of the clock
abbrev pub Tells : Explainer → Trust → Item → ℕ → List ℕ → Explainer → Type 0
Tells s trust (whole m) c line t = TellsAsk s (ask_of trust s.facts.region m c) line t
Tells s trust (fault why) c line t = (line ≡ early_line (codes "HttpFault")) × (t ≡ s)

-- whether the line closes the session changes nothing of it
abbrev pub tells : Trust → Explainer → Item → ℕ → Bool → List ℕ → Explainer → Type 0
tells trust s item c closes line t = Tells s trust item c line t

-- A run over the items in order: exactly one line for each, joined in the text.
abbrev pub ExplainRun : Explainer → Trust → Explainer → List Item → List ℕ → List ℕ → Type 0
ExplainRun start trust t items clocks text = Run (tells trust) start t items clocks text
