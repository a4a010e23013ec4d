-- Patterns in which `*` stands for any run of characters and `?` for any one character.
use Rattle.std.specs.Prelude.{◌≡◌, ◌⊎◌, ℕ, ◌+◌, ◌*◌, ◌==◌, ◌||◌, Bool, not, List, [], ◌∷◌, ◌++◌, map, length}
use Rattle.std.specs.Char.{to_ascii_lowercase}
use Rattle.std.specs.Str.{chars}

-- the codes of `*` and `?`
abbrev pub star : ℕ
star = 42

abbrev pub question_mark : ℕ
question_mark = 63

-- neither of the two
abbrev pub is_plain : ℕ → Bool
is_plain c = not ((c == star) || (c == question_mark))

-- a pattern matches a text, both as lists of characters: the empty pattern the empty text; `*` and then p any
-- run and then what p matches; `?` and then p any one character, and a character and then p itself, and then
-- what p matches
abbrev pub Globs : List ℕ → List ℕ → Type 0
Globs [] text = text ≡ []
Globs (c ∷ p) text =
    ((run : List ℕ) × (rest : List ℕ) × (c ≡ star) × (text ≡ run ++ rest) × Globs p rest)
    ⊎ (((one : ℕ) × (rest : List ℕ) × (c ≡ question_mark) × (text ≡ one ∷ rest) × Globs p rest)
    ⊎ ((rest : List ℕ) × (text ≡ c ∷ rest) × Globs p rest))

-- the characters of a text with ASCII letters in lower case
abbrev pub lowercase_chars : List ℕ → List ℕ
lowercase_chars text = map to_ascii_lowercase (chars text)

-- the most steps that a match may take
abbrev pub glob_cost : List ℕ → List ℕ → ℕ
glob_cost pattern text = (length (chars pattern) + 1) * (length (chars text) + 1)
