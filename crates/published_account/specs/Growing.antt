-- How the history grows, and what its beginnings tell of one another.
use Rattle.std.specs.Prelude.{ℕ, ◌≡◌, ◌==◌, ◌<◌, ◌≤◌, ◌⊎◌, true, List, [], ◌∷◌, ◌++◌, length, MatchBool}
use Rattle.logbook.specs.Pages.{Cell, Step, View, Book, Named}
use mathlib.Core.List.{IsPrefix}
use Rattle.account_steps.specs.History.{Entry}

abbrev pub Pairs : Type 0
Pairs = List (Entry × ℕ)

-- the first word of the book is the length of the history. A book has two words, of which the second stays 0
abbrev pub IsKept : List Cell → Pairs → Type 0
IsKept cells log = cells ≡ (length log, true) ∷ (0, true) ∷ []

abbrev pub head_of : Book → Named
head_of b = record { tracked = true; key = 0; book = b }

-- the pair was added to all that had been seen; or the history was longer, and was seen
abbrev pub Adds : Step (Entry × ℕ) → View (Entry × ℕ) ℕ → ℕ → View (Entry × ℕ) ℕ → Type 0
Adds s v found w = MatchBool (found == s.old) (w.0 ≡ v.0 ++ s.ask ∷ []) (length w.0 ≡ found)

-- zs is the longer of xs and ys, which the other begins
pub record IsLongerOf (xs ys zs : Pairs) : Type 0 where
  pub first : IsPrefix xs zs
  pub second : IsPrefix ys zs
  pub one : ((length xs < length ys) × (zs ≡ ys)) ⊎ ((length ys ≤ length xs) × (zs ≡ xs))
