-- The laws of kept journals.
use Rattle.std.specs.Prelude.{◌≡◌, ◌≢◌, ◌<◌, ◌≤◌, ◌^◌, ℕ, All, List, [], ◌∷◌, ◌++◌, map}
use Rattle.account_rows.specs.declared.entries.Entry.{Entry}
use Rattle.draw_lines.specs.Iv.{iv_at}
use Rattle.journal_lines.specs.Lines.{entry_line}
use Rattle.journal_lines.specs.LineReading.{before_last}
use Rattle.kept_journal.specs.declared.told.Told.{Told}
use Rattle.kept_journal.specs.declared.told.Told.TheVariants.{Start, Change}
use Rattle.kept_journal.specs.Lines.{Head, Recovers, Holds}
use Rattle.kept_journal.specs.Starts.{latest, Rises}

-- an entry's line has no byte below 32 before its line feed
abbrev pub EntryLinesArePrintable : Type 0
EntryLinesArePrintable = (entry : Entry) → All (λ byte. 32 ≤ byte) (before_last (entry_line entry))

-- of two starts of one journal the later is higher
abbrev pub LaterIsHigher : Type 0
LaterIsHigher = (before between after : List Told) (m n : ℕ) → Rises 0 (before ++ Start m ∷ (between ++ Start n ∷ after)) → m < n

-- the starts that the file tells are of 32 bits
abbrev pub IsSmall : Told → Type 0
IsSmall (Start number) = number < 2 ^ 32
IsSmall (Change entry) = Unit {0}

-- A run of boot n kept its start and some changes in a file; that is what a crash of it leaves. A later run, for which this file was read as what it tells, and whose boot m is above
-- each start that was read, has a higher boot.
abbrev pub StartsRise : Type 0
StartsRise =
    (head : Head) (before read : List Told) (changes : List Entry) (file : List ℕ) (n m : ℕ) → All IsSmall (before ++ Start n ∷ []) → All IsSmall read
    → Recovers head (before ++ Start n ∷ map Change changes) file → Holds head read file → latest 0 read < m
    → n < m

-- so no two of their initialization vectors are equal, whatever the numbers of their passes and their counts are
abbrev pub RunsShareNoIv : Type 0
RunsShareNoIv =
    (head : Head) (before read : List Told) (changes : List Entry) (file : List ℕ) (n m p q i j : ℕ) → All IsSmall (before ++ Start n ∷ []) → All IsSmall read
    → Recovers head (before ++ Start n ∷ map Change changes) file → Holds head read file → latest 0 read < m
    → m < 2 ^ 32 → p < 2 ^ 16 → q < 2 ^ 16 → i < 2 ^ 48 → j < 2 ^ 48
    → iv_at n p i ≢ iv_at m q j
