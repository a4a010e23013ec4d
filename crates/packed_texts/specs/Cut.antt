-- Texts that stand one behind another.
use Rattle.std.specs.Prelude.{◌≡◌, ◌≤◌, ℕ, List, [], ◌∷◌, ◌++◌, length, take, drop}
use Rattle.std.specs.Str.{IsUtf8}

-- the texts of these lengths, from the front on
abbrev pub cut : List ℕ → List ℕ → List (List ℕ)
cut [] bytes = []
cut (n ∷ lengths) bytes = take n bytes ∷ cut lengths (drop n bytes)

-- each of these lengths is that of a text, and what stands behind them is a text
abbrev pub AreCut : List ℕ → List ℕ → Type 0
AreCut [] bytes = IsUtf8 bytes
AreCut (n ∷ lengths) bytes = (n ≤ length bytes) × IsUtf8 (take n bytes) × AreCut lengths (drop n bytes)

-- the same, and nothing stands behind the last
abbrev pub AreWhole : List ℕ → List ℕ → Type 0
AreWhole [] bytes = bytes ≡ []
AreWhole (n ∷ lengths) bytes = (n ≤ length bytes) × IsUtf8 (take n bytes) × AreWhole lengths (drop n bytes)

-- behind the texts that stood there stand the first of these, as many as may be
abbrev pub HasFrontOf : List (List ℕ) → List (List ℕ) → List (List ℕ) → Type 0
HasFrontOf texts before after = (count : ℕ) × (after ≡ before ++ take count texts)
