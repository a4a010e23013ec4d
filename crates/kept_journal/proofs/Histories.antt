-- What a kept journal keeps of an account's history, across a call.
use Rattle.std.proofs.Common.{◌≡◌, ◌⊎◌, inl, inr, ◌≤◌, ℕ, List, [], ◌∷◌, ◌++◌, Bool, true, false, IsTrue, length, refl, sym, ap, ◌∙◌, subst, arith}
use Rattle.account_rows.specs.declared.entries.Entry.{Entry}
use Rattle.account_steps.specs.declared.facts.RealmFacts.{RealmFacts}
use Rattle.keepers.specs.Keeping.{LeavesAlso, IsWithOrWithout}
use Rattle.keepers.proofs.KeepingFacts.{kept_afresh}
use Rattle.kept_log.specs.Device.{Only, LeavesOnly}
use Rattle.kept_log.specs.declared.device.Device as device
use Rattle.kept_journal.specs.declared.told.Told.{Told}
use Rattle.kept_journal.specs.declared.told.Told.TheVariants.{Start, Change}
use Rattle.kept_journal.specs.declared.journal.KeptJournal.{KeptJournal}
use Rattle.kept_journal.specs.Lines.{Head, Recovers}
use Rattle.kept_journal.specs.Reading.{head_of}
use Rattle.kept_journal.specs.Starts.{entries_of}
use Rattle.kept_journal.specs.Tells.{Tells}
use Rattle.kept_journal.specs.Keeping.{TellsEntries, ReadsEntries, IsKeptJournal}
use Rattle.kept_journal.proofs.Chain.{entries_start, entries_change}

-- a file that is recovered with the change or without it is read so
either : (facts : RealmFacts) (told : List Told) (history : List Entry) (entry : Entry) (file : List ℕ) → entries_of told ≡ history
    → Recovers (head_of facts) told file ⊎ Recovers (head_of facts) (told ++ Change entry ∷ []) file → IsWithOrWithout (ReadsEntries facts) history entry file
either facts told history entry file is (inl before) = inl (record { told = told; recovers = before; entries = is })
either facts told history entry file is (inr after) =
    inr (record { told = told ++ Change entry ∷ []; recovers = after; entries = entries_change told entry ∙ ap (λ (es : List Entry). es ++ entry ∷ []) is })

module _ {D : Type 0} {g : device.Ghosts D} where
  -- a change more
  pub tells_more : (facts : RealmFacts) (old new : KeptJournal D g) (history : List Entry) (entry : Entry) → ((head : Head) (told : List Told) → Tells old head told → Tells new head (told ++ Change entry ∷ []))
      → TellsEntries facts old history → TellsEntries facts new (history ++ entry ∷ [])
  tells_more facts old new history entry more t = record {
    told = t.told ++ Change entry ∷ [];
    tells = more (head_of facts) t.told t.tells;
    entries = entries_change t.told entry ∙ ap (λ (es : List Entry). es ++ entry ∷ []) t.entries;
  }

  -- of an open journal whose file is on the disk a crash leaves what it tells
  pub reads_told : (facts : RealmFacts) (journal : KeptJournal D g) (history : List Entry) → IsTrue journal.log.is_open → Only (g.seen journal.log.device) (g.may_leave journal.log.device)
      → ((file : D) (c : List ℕ) → g.left_since file (g.moment file) c → g.may_leave file c) → TellsEntries facts journal history
      → (file : List ℕ) → g.left_since journal.log.device (g.moment journal.log.device) file → ReadsEntries facts file history
  reads_told facts journal history is_open only only_now t file left = record {
    told = t.told;
    recovers = subst (Recovers (head_of facts) t.told) (sym (only file (only_now journal.log.device file left))) (t.tells.file is_open);
    entries = t.entries;
  }

  -- what a crash within the call leaves
  pub leaves_entries : (facts : RealmFacts) (old new : KeptJournal D g) (history : List Entry) (entry : Entry)
      → ((head : Head) (told : List Told) → Tells old head told → LeavesOnly g.moment g.left_since old.log.device new.log.device (λ c. Recovers head told c ⊎ Recovers head (told ++ Change entry ∷ []) c))
      → TellsEntries facts old history
      → LeavesAlso (λ (j : KeptJournal D g). g.moment j.log.device) (λ (j : KeptJournal D g). g.left_since j.log.device) old new (IsWithOrWithout (ReadsEntries facts) history entry)
  leaves_entries facts old new history entry run t =
      let leaves = run (head_of facts) t.told t.tells in
      record {
        later = leaves.later;
        also = λ file_since file le left. elim (leaves.before file_since file le left) as (λ _. g.left_since old.log.device file_since file ⊎ IsWithOrWithout (ReadsEntries facts) history entry file) [
          | inl before ↦ inl before
          | inr now ↦ inr (either facts t.told history entry file t.entries now)
        ];
      }

  -- what was read is kept once the start is on the disk
  pub kept_since_start : (facts : RealmFacts) (journal : KeptJournal D g) (told : List Told) (number : ℕ) → IsTrue journal.log.is_open → Tells journal (head_of facts) (told ++ Start number ∷ [])
      → Only (g.seen journal.log.device) (g.may_leave journal.log.device) → ((file : D) (c : List ℕ) → g.left_since file (g.moment file) c → g.may_leave file c)
      → IsKeptJournal facts (g.moment journal.log.device) (length (entries_of told)) journal (entries_of told)
  kept_since_start facts journal told number is_open tells only only_now =
      let t : TellsEntries facts journal (entries_of told) = record { told = told ++ Start number ∷ []; tells = tells; entries = entries_start told number } in
      kept_afresh (TellsEntries facts) (λ (j : KeptJournal D g). j.log.is_open) (λ (j : KeptJournal D g). g.moment j.log.device) (λ (j : KeptJournal D g). g.left_since j.log.device) (ReadsEntries facts) journal
      (entries_of told) t (reads_told facts journal (entries_of told) is_open only only_now t)
