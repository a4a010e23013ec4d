-- The boot numbers of a journal's starts.
use Rattle.std.specs.Prelude.{◌<◌, ◌+◌, ℕ, max, List, [], ◌∷◌}
use Rattle.account_rows.specs.declared.entries.Entry.{Entry}
use Rattle.kept_journal.specs.declared.told.Told.{Told}
use Rattle.kept_journal.specs.declared.told.Told.TheVariants.{Start, Change}

-- the last start, or this number where there is none
abbrev pub latest : ℕ → List Told → ℕ
latest last [] = last
latest last (Start number ∷ more) = latest number more
latest last (Change entry ∷ more) = latest last more

-- each start is above the one before it, and the first above this number
abbrev pub Rises : ℕ → List Told → Type 0
Rises last [] = Unit {0}
Rises last (Start number ∷ more) = (last < number) × Rises number more
Rises last (Change entry ∷ more) = Rises last more

-- the changes, in order
abbrev pub entries_of : List Told → List Entry
entries_of [] = []
entries_of (Start number ∷ more) = entries_of more
entries_of (Change entry ∷ more) = entry ∷ entries_of more

-- the least number for the next start: above the last one, and no less than the one that is asked for and than the clock's seconds since 1970
abbrev pub start_after : ℕ → ℕ → ℕ → ℕ
start_after last least seconds = max (last + 1) (max least seconds)
