-- Texts cut at a character.
use Rattle.std.specs.Prelude.{◌≡◌, ◌≢◌, ℕ, List, ◌∷◌, ◌++◌}
use Rattle.std.specs.List.{All}

-- what stands before and behind the first of a byte
abbrev pub IsCutAt : ℕ → List ℕ → List ℕ → List ℕ → Type 0
IsCutAt mark text part rest = All (λ c. c ≢ mark) part × (text ≡ part ++ mark ∷ rest)

-- the same at the first two of it
abbrev pub IsCutTwiceAt : ℕ → List ℕ → List ℕ → List ℕ → List ℕ → Type 0
IsCutTwiceAt mark text first second rest =
    All (λ c. c ≢ mark) first × All (λ c. c ≢ mark) second × (text ≡ first ++ mark ∷ (second ++ mark ∷ rest))
