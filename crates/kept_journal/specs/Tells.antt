-- What an open journal tells, and what a call adds to it.
use Rattle.std.specs.Prelude.{◌≡◌, ◌⊎◌, ℕ, IsTrue, List}
use Rattle.account_rows.specs.declared.entries.Entry.{Entry}
use Rattle.kept_log.specs.Device.{LeavesOnly}
use Rattle.kept_log.specs.Log.{recovered}
use Rattle.kept_log.specs.declared.device.Device as device
use Rattle.kept_journal.specs.declared.told.Told.{Told}
use Rattle.kept_journal.specs.declared.told.Told.TheVariants.{Change}
use Rattle.kept_journal.specs.declared.journal.KeptJournal.{KeptJournal}
use Rattle.kept_journal.specs.Lines.{Head, Recovers, key_of, last_seal, text_of, seal_of, sealed}

-- a crash since leaves these records, or a journal that tells this
abbrev pub Begins : {D : Type 0} → (D → ℕ) → (D → ℕ → List ℕ → Type 0) → D → D → List (List ℕ) → Head → List Told → Type 0
Begins moment left_since old new before head told = LeavesOnly moment left_since old new (λ c. (recovered c ≡ before) ⊎ Recovers head told c)

module _ {D : Type 0} {g : device.Ghosts D} where
  -- The journal is this head's, and while it is open its file is recovered as what was told. Of one that is shut nothing is said of the file.
  pub record Tells (journal : KeptJournal D g) (head : Head) (told : List Told) : Type 0 where
    pub key : journal.key ≡ key_of head.root
    pub file : IsTrue journal.log.is_open → Recovers head told (g.seen journal.log.device)
    pub seal : IsTrue journal.log.is_open → journal.seal ≡ last_seal head told

  -- the record of a change behind the last line
  abbrev pub record_of : KeptJournal D g → Entry → List ℕ
  record_of journal entry = sealed (text_of (Change entry)) (seal_of journal.key journal.seal (text_of (Change entry)))
