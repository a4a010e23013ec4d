-- Where the part of a pattern between two `*` stands in a text.
use Rattle.std.specs.Prelude.{◌≡◌, ◌≢◌, ℕ, ◌+◌, ◌<◌, ◌==◌, ◌||◌, ◌&&◌, Bool, true, false, List, [], ◌∷◌, length, drop}
use Rattle.std.specs.List.{All}
use Rattle.kms_names.specs.Glob.{star, question_mark}

-- no character is `*`
abbrev pub HasNoStar : List ℕ → Type 0
HasNoStar text = All (λ c. c ≢ star) text

-- a character of a pattern takes one of a text
abbrev pub takes : ℕ → ℕ → Bool
takes c d = (c == question_mark) || (d == c)

-- each character of a pattern takes the one at its place of a text
abbrev pub fits : List ℕ → List ℕ → Bool
fits [] text = true
fits (c ∷ p) [] = false
fits (c ∷ p) (d ∷ text) = takes c d && fits p text

-- a pattern fits nowhere in a text
abbrev pub FitsNowhere : List ℕ → List ℕ → Type 0
FitsNowhere p text = (k : ℕ) → fits p (drop k text) ≡ false

-- a place is the first at which a pattern fits
abbrev pub IsFirstFit : List ℕ → List ℕ → ℕ → Type 0
IsFirstFit p text k = (fits p (drop k text) ≡ true) × ((j : ℕ) → j < k → fits p (drop j text) ≡ false)

-- what stands behind the first place at which a pattern fits
abbrev pub IsBehindFirstFit : List ℕ → List ℕ → List ℕ → Type 0
IsBehindFirstFit p text rest = (k : ℕ) × IsFirstFit p text k × (rest ≡ drop (k + length p) text)
