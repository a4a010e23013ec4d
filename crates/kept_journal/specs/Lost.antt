-- Lines that were lost: behind the whole lines of a file stands a line that has the right seal behind another.
use Rattle.std.specs.Prelude.{◌≡◌, ℕ, ◌+◌, Bool, List, [], ◌∷◌, ◌++◌, length, get_or, IsFalse, not, ◌==◌, ◌&&◌, if◌then◌else◌}
use Rattle.kms_names.specs.Identifier.{IsByteList}
use Rattle.account_steps.specs.declared.facts.RealmFacts.{RealmFacts}
use Rattle.journal_lines.specs.Cuts.{first_line, behind_line}
use Rattle.kept_log.specs.Log.{lines, recovered}
use Rattle.kept_journal.specs.declared.faults.KeptFault.{KeptFault}
use Rattle.kept_journal.specs.declared.faults.KeptFault.TheVariants.{At}
use Rattle.kept_journal.specs.declared.told.Told.{Told}
use Rattle.kept_journal.specs.declared.reading.Read.{Read}
use Rattle.kept_journal.specs.Lines.{key_of, sealed}
use Rattle.kept_journal.specs.Reading.{line_of, behind_lines, IsReading, IsFault}

-- how each line ends that has this seal
abbrev pub seal_end : List ℕ → List ℕ
seal_end seal = sealed [] seal ++ 10 ∷ []

-- this text ends as a line with a seal does, and the line has the right seal behind that one
pub record IsNext (key before line : List ℕ) : Type 0 where
  pub front : List ℕ
  pub last : List ℕ
  pub seal : IsByteList 32 last
  pub ends : before ≡ front ++ seal_end last
  pub body : List ℕ
  pub is : line ≡ line_of key last body

-- somewhere in a text a line ends with a seal, and the next line has the right seal behind that one
pub record ShowsNext (key text : List ℕ) : Type 0 where
  pub front : List ℕ
  pub last : List ℕ
  pub seal : IsByteList 32 last
  pub rest : List ℕ
  pub split : text ≡ front ++ (seal_end last ++ rest)
  pub body : List ℕ
  pub is : first_line rest ≡ line_of key last body

-- A closed gate: a tab in the place of a line's brace, behind which a crash may have left whole lines. A tab before a brace is none.
abbrev pub is_closed : List ℕ → Bool
is_closed behind = (get_or behind 0 0 == 9) && not (get_or behind 1 0 == 123)

-- what stands behind the whole lines of a file; where there are none, behind the line that should be the first, since that is written with a start behind it
abbrev pub searched : List ℕ → List ℕ
searched bytes = if length (lines (recovered bytes)) == 0 then behind_line (behind_lines bytes) else behind_lines bytes

-- The line behind the whole ones was lost: its gate isn't closed, and a line that follows another stands behind it. README.md says why no crash leaves that.
abbrev pub HasLost : List ℕ → List ℕ → Type 0
HasLost key bytes = IsFalse (is_closed (behind_lines bytes)) × ShowsNext key (searched bytes)

-- the fault of a file: that of its whole lines; or they are read, and the line behind them was lost
pub data IsFileFault (facts : RealmFacts) (bytes : List ℕ) : KeptFault → Type 0 where
  of_lines : {fault : KeptFault} → IsFault facts (lines (recovered bytes)) fault → IsFileFault facts bytes fault
  lost_line : {told : List Told} {read : Read} → IsReading facts bytes told read → HasLost (key_of facts.root) bytes → IsFileFault facts bytes (At (length (recovered bytes) + 1))
