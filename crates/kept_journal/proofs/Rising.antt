-- Later starts are higher.
use Rattle.std.proofs.Common.{◌<◌, ◌≤◌, ℕ, List, [], ◌∷◌, ◌++◌, arith}
use Rattle.kept_journal.specs.declared.told.Told.{Told}
use Rattle.kept_journal.specs.declared.told.Told.TheVariants.{Start, Change}
use Rattle.kept_journal.specs.Starts.{Rises}
use Rattle.kept_journal.specs.Laws.{LaterIsHigher}

above : (last n : ℕ) (between after : List Told) → Rises last (between ++ Start n ∷ after) → last < n
above last n [] after rises = rises.0
above last n (Start k ∷ between) after rises = omega (arith, rises.0, above k n between after rises.1)
above last n (Change entry ∷ between) after rises = above last n between after rises

higher : (last : ℕ) (before between after : List Told) (m n : ℕ) → Rises last (before ++ Start m ∷ (between ++ Start n ∷ after)) → m < n
higher last [] between after m n rises = above m n between after rises.1
higher last (Start k ∷ before) between after m n rises = higher k before between after m n rises.1
higher last (Change entry ∷ before) between after m n rises = higher last before between after m n rises

pub later_is_higher : LaterIsHigher
later_is_higher before between after m n rises = higher 0 before between after m n rises
