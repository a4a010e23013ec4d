-- What a kept journal keeps of an account's history.
use Rattle.std.specs.Prelude.{◌≡◌, ℕ, List}
use Rattle.account_rows.specs.declared.entries.Entry.{Entry}
use Rattle.account_steps.specs.declared.facts.RealmFacts.{RealmFacts}
use Rattle.keepers.specs.Keeping.{IsKept}
use Rattle.kept_log.specs.declared.device.Device as device
use Rattle.kept_journal.specs.declared.told.Told.{Told}
use Rattle.kept_journal.specs.declared.journal.KeptJournal.{KeptJournal}
use Rattle.kept_journal.specs.Lines.{Recovers}
use Rattle.kept_journal.specs.Reading.{head_of}
use Rattle.kept_journal.specs.Starts.{entries_of}
use Rattle.kept_journal.specs.Tells.{Tells}

-- a file is recovered as a journal of these facts whose changes are these entries, whatever starts stand between them
pub record ReadsEntries (facts : RealmFacts) (file : List ℕ) (history : List Entry) : Type 0 where
  pub told : List Told
  pub recovers : Recovers (head_of facts) told file
  pub entries : entries_of told ≡ history

module _ {D : Type 0} {g : device.Ghosts D} where
  -- the journal is that of these facts, and its changes are these entries
  pub record TellsEntries (facts : RealmFacts) (journal : KeptJournal D g) (history : List Entry) : Type 0 where
    pub told : List Told
    pub tells : Tells journal (head_of facts) told
    pub entries : entries_of told ≡ history

  -- What was kept since a moment, from which on the history began with so many loaded entries: while it is open the journal tells this history; for each beginning of it there is a
  -- moment since which each crash leaves a file that is read as one that begins so; and no crash leaves anything else.
  abbrev pub IsKeptJournal : RealmFacts → ℕ → ℕ → KeptJournal D g → List Entry → Type 0
  IsKeptJournal facts started loaded journal history =
      IsKept (TellsEntries facts) (λ j. j.log.is_open) (λ j. g.moment j.log.device) (λ j. g.left_since j.log.device) (ReadsEntries facts) started loaded journal history
