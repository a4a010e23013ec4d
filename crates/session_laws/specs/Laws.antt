-- Laws about the cut of a stream and the ends of a session.
use Rattle.std.specs.Prelude.{◌≡◌, ◌≢◌, ℕ, List, [], ◌∷◌, ◌++◌, length, Bool}
use Rattle.httparse.specs.Grammar.{NeverHasRequest}
use Rattle.http_front.specs.declared.judge.HttpFault.{HttpFault}
use Rattle.session_front.specs.declared.trust.Trust.{Trust}
use Rattle.kms_json.specs.declared.asks.Ask.{Ask}
use Rattle.kms_json.specs.declared.replies.Reply.{Reply}
use Rattle.account_core.specs.Decide.{IsLawful}
use Rattle.account_laws.specs.Laws.{IsOpened, Sealing, HasSealed, iv_in}
use Rattle.published_account.specs.Answers.{Answer}
use Rattle.published_account.specs.Pairs.{entries_of}
use Rattle.kms_session.specs.Answers.{IsReplyText}
use Rattle.publish_pass.specs.Pass.{Pass, Reads}
use Rattle.session_front.specs.declared.ends.SessionEnd.{SessionEnd}
use Rattle.session_front.specs.Items.{Item, fault, Cuts}
use Rattle.kms_session.specs.Run.{Turn, SessionRun, plan_of, asks}
use Rattle.session_front.specs.Callers.{IsOfAccount}
use mathlib.Core.List.{IsPrefix}
use Rattle.kms_session.specs.Session.{Outside, EndsBy}
use Rattle.kms_session.specs.Complete.{TellsTaken, IsOneEnd, IsComplete}

-- The items are the same, or they end in two names of one fault: bytes that no head can come of may bear another fault, as one
-- of too many headers.
pub data AreAlike (rest : List ℕ) (items others : List Item) : Type 0 where
  same_items : items ≡ others → AreAlike rest items others
  two_names : (front : List Item) (why other : HttpFault) → items ≡ front ++ fault why ∷ [] → others ≡ front ++ fault other ∷ [] → NeverHasRequest rest → AreAlike rest items others

-- a stream is cut in one way
abbrev pub OneCut : Type 0
OneCut = (stream : List ℕ) (closes other : Bool) (items others : List Item) (rest last : List ℕ) → Cuts stream closes items rest → Cuts stream other others last
    → length items ≡ length others → AreAlike rest items others × (rest ≡ last)

abbrev pub OneEnd : Type 0
OneEnd = (keeping : Bool) (trust : Trust) (old new : Outside) → TellsTaken old new → IsOneEnd keeping trust old new

-- a session that nothing disturbs answers each message that it is asked, and ends as they say; or it wants memory, and took nothing
abbrev pub EachMessageIsAnswered : Type 0
EachMessageIsAnswered = (keeping : Bool) (trust : Trust) (end : SessionEnd) (old new : Outside) → EndsBy keeping trust end old new → IsComplete keeping trust end old new

-- a run of a pass of the callers' account keeps the history lawful
abbrev pub RunsKeepLawful : Type 0
RunsKeepLawful =
    (keeping : Bool) (trust : Trust) (start end : Pass) (items : List Item) (clocks text : List ℕ) → SessionRun keeping start trust end items clocks text
    → IsOfAccount start.facts.account trust → IsLawful start.facts (entries_of start.history)
    → (end.facts ≡ start.facts) × IsLawful end.facts (entries_of end.history)

-- and so it does one that an opened account holds
abbrev pub RunsKeepOpened : Type 0
RunsKeepOpened =
    (keeping : Bool) (trust : Trust) (start end : Pass) (items : List Item) (clocks text : List ℕ) → SessionRun keeping start trust end items clocks text
    → IsOfAccount start.facts.account trust → IsOpened start.facts (entries_of start.history)
    → (end.facts ≡ start.facts) × IsOpened end.facts (entries_of end.history)

-- A turn, and a run of turns, leave a history that begins with the one before. The number of entries that a reply names is the
-- length of the history after its turn, so along a session it never falls
abbrev pub TurnsGoOn : Type 0
TurnsGoOn = (keeping : Bool) (s : Pass) (trust : Trust) (item : Item) (c : ℕ) (closes : Bool) (text : List ℕ) (t : Pass) → Turn keeping s trust item c closes text t → IsPrefix s.history t.history

abbrev pub RunsGoOn : Type 0
RunsGoOn = (keeping : Bool) (trust : Trust) (start end : Pass) (items : List Item) (clocks text : List ℕ) → SessionRun keeping start trust end items clocks text → IsPrefix start.history end.history

-- a turn whose reply holds this sealed text, from one state of the pass to the next
pub record SealsAt (trust : Trust) (item : Item) (c : ℕ) (s t : Pass) (sealing : Sealing) : Type 0 where
  pub request : Ask
  pub is : plan_of trust s.facts.region item c ≡ asks request
  pub reply : Reply
  pub reads : Reads s request reply t
  pub sealed : HasSealed reads.met.facts (entries_of reads.met.history) request reads.met.places sealing

-- the texts that two turns of a session seal have different initialization vectors, whatever turns, want of memory and changes that weren't kept among them,
-- stand between the two
abbrev pub OneSessionRepeatsNoIv : Type 0
OneSessionRepeatsNoIv =
    (keeping : Bool) (trust : Trust) (s t u v : Pass) (first second : Item) (c d : ℕ) (items : List Item) (clocks text : List ℕ) (one other : Sealing)
    → IsOfAccount s.facts.account trust → IsOpened s.facts (entries_of s.history)
    → SealsAt trust first c s t one → SessionRun keeping t trust u items clocks text → SealsAt trust second d u v other
    → iv_in one.blob ≢ iv_in other.blob

-- an answer at a second and a number of entries has one text
abbrev pub OneReplyText : Type 0
OneReplyText = (answer : Answer) (second front : ℕ) (closes : Bool) (text other : List ℕ) → IsReplyText answer second front closes text → IsReplyText answer second front closes other → text ≡ other
