-- What a pass holds, and how a request changes it.
use Rattle.std.specs.Prelude.{◌≡◌, ◌≤◌, ℕ, zero, suc, List, [], ◌∷◌, ◌++◌, length, Option, Some, None, ◌⊎◌}
use mathlib.Core.List.{IsPrefix}
use Rattle.kms_json.specs.declared.asks.Ask.{Ask}
use Rattle.kms_json.specs.declared.replies.Reply.{Reply}
use Rattle.account_steps.specs.declared.facts.RealmFacts.{RealmFacts}
use Rattle.account_steps.specs.History.{Entry}
use Rattle.account_steps.specs.History.{housekeeping_of}
use Rattle.account_steps.specs.declared.places.Places.{Places}
use Rattle.account_steps.specs.Places.{IsUpTo}
use Rattle.account_core.specs.Decide.{decide}
use Rattle.account_core.specs.Account.{Account}
use Rattle.published_account.specs.declared.answered.Answered.{Answered}
use Rattle.published_account.specs.declared.answered.Unread.{Unread}
use Rattle.published_account.specs.declared.answered.Unread.TheVariants.{NotEntered, NoMemory}
use Rattle.published_account.specs.Answers.{answer_of, answer_in}
use Rattle.published_account.specs.Pairs.{Shown, entries_of, loaded_pairs, LeadsTo}
use Rattle.published_account.specs.Reading.{Rose}

-- the facts of its service, how many passes that has and how many entries were loaded, its number, the history that it has seen with the number of the pass
-- that made each entry, the places of its own entries, what it has used of its random stream and its initialization vectors, and how often it missed the
-- published account
pub record Pass : Type 0 where
  pub facts : RealmFacts
  pub passes : ℕ
  pub loaded : ℕ
  pub number : ℕ
  pub history : List (Entry × ℕ)
  pub own : List ℕ
  pub places : Places
  pub missed : ℕ

-- the pass has made one more entry, which is the last of the history
abbrev pub making : Pass → Entry → Pass
making s entry = record s { history = s.history ++ (entry, s.number) ∷ []; own = s.own ++ length s.history ∷ [] }

abbrev pub making_any : Pass → Option Entry → Pass
making_any s None = s
making_any s (Some entry) = making s entry

-- the places of the first n entries
abbrev pub first_places : ℕ → List ℕ
first_places zero = []
first_places (suc n) = first_places n ++ n ∷ []

-- these are places in a history of so many entries, of which the first k were loaded, each once and in order, and behind the loaded ones
pub data ArePlaces (k : ℕ) : ℕ → List ℕ → Type 0 where
  no_entry : ArePlaces k k []
  passed_over : {n : ℕ} {places : List ℕ} → ArePlaces k n places → ArePlaces k (suc n) places
  taken : {n : ℕ} {places : List ℕ} → ArePlaces k n places → ArePlaces k (suc n) (places ++ n ∷ [])

-- the history is exactly what was loaded, and then the pass's own entries
abbrev pub MadeAll : Pass → Type 0
MadeAll s = first_places (length s.history) ≡ first_places s.loaded ++ s.own

-- so it is where the service has one pass
abbrev pub MadeAllIfAlone : Pass → Type 0
MadeAllIfAlone s = s.passes ≡ 1 → MadeAll s

-- and the pass had nothing to learn
abbrev pub KnewAllIfAlone : Pass → Pass → Type 0
KnewAllIfAlone s met = s.passes ≡ 1 → met ≡ s

-- of two histories one begins with all of the other
abbrev pub Agree : List (Entry × ℕ) → List (Entry × ℕ) → Type 0
Agree one other = IsPrefix one other ⊎ IsPrefix other one

-- the pass at other places
abbrev pub at_places : Pass → Places → Pass
at_places s places = record s { places = places }

-- the pass comes to hold more of the history, in which all that it held comes first, and each further entry may come next after those before it. Nothing else
-- changes
pub record Learns (s u : Pass) : Type 0 where
  pub history : IsPrefix s.history u.history
  pub others : u ≡ record s { history = u.history }
  pub leads : LeadsTo s.facts (entries_of s.history) (entries_of u.history)

-- the same of a pass that may meanwhile have missed the published account more often
pub record Meets (s u : Pass) : Type 0 where
  pub history : IsPrefix s.history u.history
  pub others : u ≡ record s { history = u.history; missed = u.missed }
  pub missed : s.missed ≤ u.missed
  pub leads : LeadsTo s.facts (entries_of s.history) (entries_of u.history)

-- a request that doesn't change the account is answered at what the pass then holds, and uses what its answer uses
pub record Reads (s : Pass) (x : Ask) (reply : Reply) (t : Pass) : Type 0 where
  pub met : Pass
  pub seen : Meets s met
  pub answer : reply ≡ (decide met.facts (entries_of met.history) x met.places).reply
  pub used : t ≡ at_places met (decide met.facts (entries_of met.history) x met.places).places

-- a request that is answered for want of memory uses at most what its answer would use
pub record Wants (s : Pass) (x : Ask) (t : Pass) : Type 0 where
  pub met : Pass
  pub seen : Meets s met
  pub places : Places
  pub used : t ≡ at_places met places
  pub at_most : IsUpTo met.places places (decide met.facts (entries_of met.history) x met.places).places

-- the pass is as it was, and has missed the published account once more
pub record Misses (s t : Pass) : Type 0 where
  pub others : t ≡ record s { missed = t.missed }
  pub rose : Rose s.missed t.missed

-- the account is that of the history that the pass then holds
pub record GivesAccount (s : Pass) (account : Account) (t : Pass) : Type 0 where
  pub learns : Learns s t
  pub facts : account.facts ≡ s.facts
  pub entries : account.entries ≡ entries_of t.history

-- and why there is none
abbrev pub LacksAccount : Pass → Unread → Pass → Type 0
LacksAccount s NotEntered t = Misses s t
LacksAccount s NoMemory t = Learns s t

-- what is answered to a request that doesn't change the account
pub record AnswersRead (s : Pass) (x : Ask) (a : Answered) (t : Pass) : Type 0 where
  pub reply : Reply
  pub reads : Reads s x reply t
  pub answer : answer_in a ≡ answer_of reply
  pub front : a.front ≡ length t.history
  pub missed : t.missed ≡ s.missed

-- and why it isn't answered
abbrev pub LacksRead : Pass → Ask → Unread → Pass → Type 0
LacksRead s x NotEntered t = Misses s t
LacksRead s x NoMemory t = Wants s x t × (t.missed ≡ s.missed)

-- the pass after the decision
abbrev pub deciding : Pass → Ask → Pass
deciding s x = making_any s (decide s.facts (entries_of s.history) x s.places).entry

-- the decision, whose entry is the last of the history
pub record Decides (s : Pass) (x : Ask) (reply : Reply) (t : Pass) : Type 0 where
  pub made : t ≡ deciding s x
  pub answer : reply ≡ (decide s.facts (entries_of s.history) x s.places).reply

-- what is answered by the decision at what the pass holds
pub record AnswersHere (s : Pass) (x : Ask) (a : Answered) (t : Pass) : Type 0 where
  pub reply : Reply
  pub decides : Decides s x reply t
  pub answer : answer_in a ≡ answer_of reply
  pub front : a.front ≡ length t.history

-- the pass after housekeeping at a clock's answer
abbrev pub keeping_house : Pass → ℕ → Pass
keeping_house s clock = making_any s (housekeeping_of (entries_of s.history) clock)

-- A request that changes the account: housekeeping comes first, then the decision. Where the service has one pass, that pass held the
-- whole history before, and the history which is left is exactly what was loaded, and then its own entries.
pub record Changes (s : Pass) (x : Ask) (reply : Reply) (t : Pass) : Type 0 where
  pub met : Pass
  pub seen : Learns s met
  pub decides : Decides (keeping_house met x.moment) x reply t
  pub knew : KnewAllIfAlone s met
  pub made_all : MadeAllIfAlone t

-- what is answered to it
pub record AnswersChange (s : Pass) (x : Ask) (a : Answered) (t : Pass) : Type 0 where
  pub reply : Reply
  pub changes : Changes s x reply t
  pub answer : answer_in a ≡ answer_of reply
  pub front : a.front ≡ length t.history

-- what is answered at the desk, whose whole history the pass holds
abbrev pub AnswersAtDesk : Pass → Ask → Answered → Pass → Type 0
AnswersAtDesk s x a t = AnswersHere (keeping_house s x.moment) x a t

-- nothing more was made, or the entry of housekeeping alone
abbrev pub LeavesAtMost : Pass → ℕ → Pass → Type 0
LeavesAtMost s clock t = (t ≡ s) ⊎ (t ≡ keeping_house s clock)

-- a request that changes the account and is answered for want of memory leaves at most the entry of housekeeping
pub record WantsChange (s : Pass) (x : Ask) (t : Pass) : Type 0 where
  pub met : Pass
  pub seen : Learns s met
  pub left : LeavesAtMost met x.moment t
  pub knew : KnewAllIfAlone s met
  pub made_all : MadeAllIfAlone t

-- A pass learns what the desk has. Where the service has one pass, there was nothing to learn, and all that wasn't loaded is its own
pub record LearnsAll (s t : Pass) : Type 0 where
  pub seen : Learns s t
  pub knew : KnewAllIfAlone s t
  pub made_all : MadeAllIfAlone t

-- housekeeping at a clock's answer
pub record KeepsHouse (s : Pass) (clock : ℕ) (t : Pass) : Type 0 where
  pub met : Pass
  pub seen : Learns s met
  pub kept : t ≡ keeping_house met clock
  pub knew : KnewAllIfAlone s met
  pub made_all : MadeAllIfAlone t

-- the same for want of memory
pub record WantsHouse (s : Pass) (clock : ℕ) (t : Pass) : Type 0 where
  pub met : Pass
  pub seen : Learns s met
  pub left : LeavesAtMost met clock t
  pub knew : KnewAllIfAlone s met
  pub made_all : MadeAllIfAlone t

-- a pass of a service with so many passes, which begins with these entries, that has seen no others, and made and used nothing
abbrev pub fresh_pass : RealmFacts → ℕ → List Entry → ℕ → Pass
fresh_pass facts passes loaded number = record {
  facts = facts;
  passes = passes;
  loaded = length loaded;
  number = number;
  history = loaded_pairs loaded;
  own = [];
  places = record { number = number; words = 0; ivs = 0 };
  missed = 0;
}

-- its passes 1 to n, in order
abbrev pub fresh_passes : RealmFacts → ℕ → List Entry → ℕ → List Pass
fresh_passes facts passes loaded zero = []
fresh_passes facts passes loaded (suc n) = fresh_passes facts passes loaded n ++ fresh_pass facts passes loaded (suc n) ∷ []

-- a service that isn't open yet: the name and the parts of its ledger, and what is published
pub record Opening : Type 0 where
  pub name : ℕ
  pub parts : ℕ
  pub shown : Shown

-- what some passes made together: how many passes these are, and how many entries they made
pub record Tally : Type 0 where
  pub passes : ℕ
  pub made : ℕ
