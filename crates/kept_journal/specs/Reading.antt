-- Which files are a kept journal of an account, and which have a fault where.
use Rattle.std.specs.Prelude.{◌≡◌, ◌≢◌, ◌<◌, ◌≤◌, ◌+◌, ◌^◌, ℕ, Some, true, false, All, List, [], ◌∷◌, ◌++◌, length, drop, nat_lt, if◌then◌else◌, Option, option_and_then}
use Rattle.account_steps.specs.declared.facts.RealmFacts.{RealmFacts}
use Rattle.account_core.specs.Account.{Account}
use Rattle.account_core.specs.Fitting.{Fits, IsSound}
use Rattle.kms_names.specs.Reading.{some_if}
use Rattle.journal_lines.specs.Cuts.{first_line, number_of}
use Rattle.journal_lines.specs.Lines.{entry_line}
use Rattle.journal_lines.specs.LineReading.{entry_of}
use Rattle.kept_log.specs.Log.{line, lines, recovered}
use Rattle.kept_journal.specs.declared.told.Told.{Told}
use Rattle.kept_journal.specs.declared.told.Told.TheVariants.{Start, Change}
use Rattle.kept_journal.specs.declared.faults.KeptFault.{KeptFault}
use Rattle.kept_journal.specs.declared.faults.KeptFault.TheVariants.{At, OldBoot, NoMemory}
use Rattle.kept_journal.specs.declared.reading.Read.{Read}
use Rattle.kept_journal.specs.Lines.{Head, text_of, key_of, seal_of, sealed, head_text, first_seal, records_of, last_seal}
use Rattle.kept_journal.specs.Starts.{latest, Rises, entries_of}

-- whose journal it is, by these facts
abbrev pub head_of : RealmFacts → Head
head_of facts = record { account = facts.account; region = facts.region; root = facts.root }

-- a line of this text behind one of this seal
abbrev pub line_of : List ℕ → List ℕ → List ℕ → List ℕ
line_of key last text = line (sealed text (seal_of key last text))

-- the first line of a journal of these facts
abbrev pub first_line_of : RealmFacts → List ℕ
first_line_of facts = line (sealed (head_text facts.account facts.region) (first_seal (head_of facts)))

-- the lines of a journal that tells this
abbrev pub text_at : RealmFacts → List Told → List ℕ
text_at facts told = lines (records_of (head_of facts) told)

-- the line is read as what it was written of: a start of 32 bits, or an entry in its one spelling
abbrev pub IsReadBack : Told → Type 0
IsReadBack (Start number) = number < 2 ^ 32
IsReadBack (Change entry) = entry_of (entry_line entry) ≡ Some entry

-- the number of a start, of 32 bits in its one spelling
abbrev pub start_in : List ℕ → Option ℕ
start_in digits = option_and_then (λ n. some_if (nat_lt n 4294967296) n) (number_of digits)

-- what may follow: a start above the last one, or an entry that fits those before it
abbrev pub FitsBehind : RealmFacts → List Told → Told → Type 0
FitsBehind facts told (Start number) = latest 0 told < number
FitsBehind facts told (Change entry) = Fits facts (entries_of told) entry

-- lines that were read: each start is above those before it, each entry fits those before it, and each line is read back
pub record AreRead (facts : RealmFacts) (told : List Told) : Type 0 where
  pub rises : Rises 0 told
  pub sound : IsSound facts (entries_of told)
  pub back : All IsReadBack told

-- the line is that of nothing that may follow these
abbrev pub IsOddLine : RealmFacts → List Told → List ℕ → Type 0
IsOddLine facts told text = (one : Told) → IsReadBack one → FitsBehind facts told one → text ≢ line_of (key_of facts.root) (last_seal (head_of facts) told) (text_of one)

-- The fault of whole lines: they don't begin with the first line of these facts; or the lines so far are read, and the next is that of nothing that may follow them, sealed behind
-- them; or all are read, and the last start isn't below the facts' boot; or there is no line, and that boot is 0; or memory was wanting
pub data IsFault (facts : RealmFacts) (text : List ℕ) : KeptFault → Type 0 where
  no_head : 0 < length text → ((rest : List ℕ) → text ≢ first_line_of facts ++ rest) → IsFault facts text (At 1)
  no_line : {told : List Told} (rest : List ℕ) → AreRead facts told → text ≡ text_at facts told ++ rest → 0 < length rest → IsOddLine facts told (first_line rest)
      → IsFault facts text (At (length told + 2))
  old_boot : {told : List Told} → AreRead facts told → text ≡ text_at facts told → facts.boot ≤ latest 0 told → IsFault facts text OldBoot
  zero_boot : length text ≡ 0 → facts.boot ≡ 0 → IsFault facts text OldBoot
  no_memory : IsFault facts text NoMemory

-- a reading of these lines: the account with their changes, the seal of the last one, and the last start
pub record IsSoFar (facts : RealmFacts) (told : List Told) (read : Read) : Type 0 where
  pub are : AreRead facts told
  pub account : read.account ≡ record { facts = facts; entries = entries_of told }
  pub seal : read.seal ≡ last_seal (head_of facts) told
  pub last_start : read.last_start ≡ latest 0 told

-- a reading with one line more
pub record IsOneMore (facts : RealmFacts) (told : List Told) (text : List ℕ) (before read : Read) : Type 0 where
  pub one : Told
  pub is : text ≡ line_of (key_of facts.root) (last_seal (head_of facts) told) (text_of one)
  pub so_far : IsSoFar facts (told ++ one ∷ []) read
  pub new : read.is_new ≡ before.is_new

-- a reading of whole lines behind the first one, of a text that has that too, or of a text with none
pub record IsReadOf (facts : RealmFacts) (text : List ℕ) (told : List Told) (read : Read) : Type 0 where
  pub so_far : IsSoFar facts told read
  pub is : text ≡ text_at facts told

-- a reading of a file: of these lines, or of none
pub record IsReading (facts : RealmFacts) (bytes : List ℕ) (told : List Told) (read : Read) : Type 0 where
  pub so_far : IsSoFar facts told read
  pub old : read.is_new ≡ false → recovered bytes ≡ records_of (head_of facts) told
  pub new : read.is_new ≡ true → (recovered bytes ≡ []) × (told ≡ [])
  pub lower : latest 0 told < facts.boot

-- what stands behind the whole lines of a file
abbrev pub behind_lines : List ℕ → List ℕ
behind_lines bytes = drop (length (lines (recovered bytes))) bytes

-- room for lines: tabs
abbrev pub IsRoom : List ℕ → Type 0
IsRoom bytes = All (λ byte. byte ≡ 9) bytes

-- what is appended as a run begins: the record of its start, behind the first one where there is none yet
abbrev pub opening : Read → List ℕ → List (List ℕ)
opening read start = if read.is_new then sealed (head_text read.account.facts.account read.account.facts.region) read.seal ∷ start ∷ [] else start ∷ []
