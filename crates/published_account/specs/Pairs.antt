-- The published history: each entry with the number of the pass that made it.
use Rattle.std.specs.Prelude.{◌≡◌, ℕ, ◌<◌, ◌≤◌, List, [], ◌∷◌, ◌++◌, length, map}
use Rattle.logbook.specs.Pages.{Book}
use Rattle.account_steps.specs.declared.facts.RealmFacts.{RealmFacts}
use Rattle.account_steps.specs.History.{Entry}
use Rattle.account_core.specs.Account.{Account}
use Rattle.account_core.specs.Decide.{IsNext}
use Rattle.account_core.specs.Fitting.{IsHeld}

-- an account with the makers of its entries: the facts, the number of passes, how many entries were loaded, and the entries, each with its maker
pub record Whole : Type 0 where
  pub facts : RealmFacts
  pub passes : ℕ
  pub loaded : ℕ
  pub pairs : List (Entry × ℕ)

-- what is published: the name of the book in which the history stands, and the account with its makers
pub record Shown : Type 0 where
  pub book : Book
  pub whole : Whole

-- the entries alone
abbrev pub entries_of : List (Entry × ℕ) → List Entry
entries_of pairs = map (λ made. made.0) pairs

-- entries that were loaded: no pass made them, which the number 0 says
abbrev pub loaded_pairs : List Entry → List (Entry × ℕ)
loaded_pairs entries = map (λ entry. (entry, 0)) entries

-- an account whose entries were loaded, in a service of so many passes
abbrev pub whole_of : Account → ℕ → Whole
whole_of account passes = record { facts = account.facts; passes = passes; loaded = length account.entries; pairs = loaded_pairs account.entries }

-- the account alone
abbrev pub account_in : Whole → Account
account_in whole = record { facts = whole.facts; entries = entries_of whole.pairs }

-- the first k entries were loaded, and are those of an account; each further one is one that may come next after those before it, and its maker is one of the
-- passes 1 to n
pub data IsHistory (facts : RealmFacts) (n k : ℕ) : List (Entry × ℕ) → Type 0 where
  was_loaded : (entries : List Entry) → IsHeld facts entries → length entries ≡ k → IsHistory facts n k (loaded_pairs entries)
  was_made : {pairs : List (Entry × ℕ)} (entry : Entry) (maker : ℕ) → IsHistory facts n k pairs → IsNext facts (entries_of pairs) entry → 0 < maker → maker ≤ n
      → IsHistory facts n k (pairs ++ (entry, maker) ∷ [])

-- these are the entries of a history, and then others, each of which may come next after those before it
pub data LeadsTo (facts : RealmFacts) (history : List Entry) : List Entry → Type 0 where
  stays : LeadsTo facts history history
  leads_on : {later : List Entry} (entry : Entry) → LeadsTo facts history later → IsNext facts later entry → LeadsTo facts history (later ++ entry ∷ [])
