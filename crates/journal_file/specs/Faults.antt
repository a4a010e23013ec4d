-- Which bytes are a journal of facts, and which have a fault where.
use Rattle.std.specs.Prelude.{◌≡◌, ◌≢◌, ℕ, ◌+◌, ◌<◌, ◌≤◌, ◌^◌, Some, All, List, [], ◌∷◌, ◌++◌, length, map}
use Rattle.account_steps.specs.declared.facts.RealmFacts.{RealmFacts}
use Rattle.account_rows.specs.declared.entries.Entry.{Entry}
use Rattle.account_core.specs.Account.{Account}
use Rattle.account_core.specs.Fitting.{Fits, IsSound}
use Rattle.journal_file.specs.declared.faults.JournalFault.{JournalFault}
use Rattle.journal_file.specs.declared.faults.JournalFault.TheVariants.{At, OldBoot, NoMemory}
use Rattle.journal_lines.specs.Cuts.{lines_of}
use Rattle.journal_lines.specs.Forms.{IsEntry}
use Rattle.journal_lines.specs.Lines.{entry_line}
use Rattle.journal_lines.specs.LineReading.{entry_of}
use Rattle.journal_lines.specs.FrameLines.{head_line, end_line, IsEnd}
use Rattle.journal_file.specs.Journal.{entries_text, before_end, seal_of, text_under}

-- the text of a history under a boot number
abbrev pub text_at : RealmFacts → ℕ → List Entry → List ℕ
text_at facts boot history = text_under facts.account facts.region facts.root boot history

-- the bytes are the text of a sound history under these facts' account, region and root secret and a lower boot number
pub record IsJournalOf (facts : RealmFacts) (bytes : List ℕ) (history : List Entry) : Type 0 where
  pub boot : ℕ
  pub lower : boot < facts.boot
  pub sound : IsSound facts history
  pub text : bytes ≡ text_at facts boot history

-- the line of the entry is read as that entry
abbrev pub IsReadBack : Entry → Type 0
IsReadBack entry = entry_of (entry_line entry) ≡ Some entry

-- these lines are left behind those of a sound history; each of those is read as the entry that it was written of
pub record IsLeft (facts : RealmFacts) (rest : List ℕ) (history : List Entry) (lines : List (List ℕ)) : Type 0 where
  pub are : lines_of rest ≡ map entry_line history ++ lines
  pub sound : IsSound facts history
  pub read : All IsReadBack history

-- the seal that is right behind a history
abbrev pub right_seal : RealmFacts → ℕ → List Entry → List ℕ
right_seal facts boot history = seal_of facts.root (before_end facts.account facts.region boot history)

-- the fault of what follows a first line with this boot number; the first line is line 1. Each line before the fault is read as
-- an entry that fits those before it. The text ends early where no line is left; the line at hand is no last line, and none that is
-- read as an entry that fits; a line follows the last line; the last line has another number or another seal than is right; all is
-- right, and the boot number isn't lower
pub data IsFaultBehind (facts : RealmFacts) (boot : ℕ) (rest : List ℕ) : JournalFault → Type 0 where
  ends_early : {history : List Entry} → IsLeft facts rest history [] → IsFaultBehind facts boot rest (At (length history + 2))
  no_entry : {history : List Entry} {line : List ℕ} {lines : List (List ℕ)} → IsLeft facts rest history (line ∷ lines)
      → ((number : ℕ) (seal : List ℕ) → ¬ (IsEnd line number seal)) → ((entry : Entry) → IsReadBack entry → Fits facts history entry → line ≢ entry_line entry)
      → IsFaultBehind facts boot rest (At (length history + 2))
  goes_on : {history : List Entry} {line next : List ℕ} {lines : List (List ℕ)} (number : ℕ) (seal : List ℕ) → IsLeft facts rest history (line ∷ next ∷ lines)
      → IsEnd line number seal → IsFaultBehind facts boot rest (At (length history + 3))
  wrong_end : {history : List Entry} {line : List ℕ} (number : ℕ) (seal : List ℕ) → IsLeft facts rest history (line ∷ []) → IsEnd line number seal
      → (number ≡ length history → seal ≢ right_seal facts boot history) → IsFaultBehind facts boot rest (At (length history + 2))
  old_boot : {history : List Entry} → IsSound facts history → All IsReadBack history → head_line facts.account facts.region boot ++ rest ≡ text_at facts boot history
      → facts.boot ≤ boot → IsFaultBehind facts boot rest OldBoot

-- the fault of bytes: that of what follows their first line, or at line 1 where they don't begin with a first line of this account and region; or memory was wanting
pub data IsFault (facts : RealmFacts) (bytes : List ℕ) : JournalFault → Type 0 where
  no_head : ((boot : ℕ) (rest : List ℕ) → boot < 2 ^ 32 → bytes ≢ head_line facts.account facts.region boot ++ rest) → IsFault facts bytes (At 1)
  behind : {fault : JournalFault} (boot : ℕ) (rest : List ℕ) → boot < 2 ^ 32 → bytes ≡ head_line facts.account facts.region boot ++ rest
      → IsFaultBehind facts boot rest fault → IsFault facts bytes fault
  no_memory : IsFault facts bytes NoMemory

-- an account with one entry more, which fits, and whose line this is
pub record IsWithLine (before : Account) (line : List ℕ) (after : Account) : Type 0 where
  pub entry : Entry
  pub is : line ≡ entry_line entry
  pub read : entry_of line ≡ Some entry
  pub fits : Fits before.facts before.entries entry
  pub facts : after.facts ≡ before.facts
  pub entries : after.entries ≡ before.entries ++ entry ∷ []

-- what follows a first line is that of a history whose entries have their forms, and nothing forbids it
pub record IsExpected (facts : RealmFacts) (boot : ℕ) (rest : List ℕ) (history : List Entry) : Type 0 where
  pub forms : All IsEntry history
  pub few : length history < 10 ^ 18
  pub lower : boot < facts.boot
  pub sound : IsSound facts history
  pub text : rest ≡ entries_text history ++ end_line (length history) (right_seal facts boot history)

-- the fault of a last line: another line follows it; it has another number or seal; or the boot number isn't lower
pub data IsEndFault (account : Account) (boot : ℕ) (right : List ℕ) (number : ℕ) (seal behind : List ℕ) : JournalFault → Type 0 where
  followed : 0 < length behind → IsEndFault account boot right number seal behind (At (length account.entries + 3))
  wrong : length behind ≡ 0 → (number ≡ length account.entries → seal ≢ right) → IsEndFault account boot right number seal behind (At (length account.entries + 2))
  old : length behind ≡ 0 → number ≡ length account.entries → seal ≡ right → account.facts.boot ≤ boot → IsEndFault account boot right number seal behind OldBoot

-- an account of these facts, with the entries of what follows a first line with a lower boot number, up to the last line, which is right
pub record IsReadOf (facts : RealmFacts) (boot : ℕ) (rest : List ℕ) (account : Account) : Type 0 where
  pub same : account.facts ≡ facts
  pub lower : boot < facts.boot
  pub sound : IsSound facts account.entries
  pub read : All IsReadBack account.entries
  pub text : rest ≡ entries_text account.entries ++ end_line (length account.entries) (right_seal facts boot account.entries)
