-- Texts cut into lines, and numbers in them.
use Rattle.std.specs.Prelude.{ℕ, ◌+◌, List, [], ◌∷◌, take, drop, ◌==◌, nat_lt, length, if◌then◌else◌, Option, Some, None, option_map, option_and_then, decimal}
use Rattle.std.specs.List.{position_or_len}
use Rattle.std.specs.Str.{bytes_eq}
use Rattle.kms_names.specs.Digits.{number_in}
use Rattle.kms_names.specs.Reading.{some_if}

-- a byte before the first line
abbrev pub with_byte : ℕ → List (List ℕ) → List (List ℕ)
with_byte c [] = (c ∷ []) ∷ []
with_byte c (line ∷ lines) = (c ∷ line) ∷ lines

-- the lines of a text: each ends with its line feed; what follows the last line feed is one more, if it is anything
abbrev pub lines_of : List ℕ → List (List ℕ)
lines_of [] = []
lines_of (c ∷ text) = if c == 10 then (c ∷ []) ∷ lines_of text else with_byte c (lines_of text)

-- how many bytes stand before the first such byte, or all of them
abbrev pub place_of : ℕ → List ℕ → ℕ
place_of stop text = position_or_len (λ c. c == stop) text

-- the first line, and what follows it
abbrev pub first_line : List ℕ → List ℕ
first_line text = take (place_of 10 text + 1) text

abbrev pub behind_line : List ℕ → List ℕ
behind_line text = drop (place_of 10 text + 1) text

-- what stands before and behind the first such byte
abbrev pub cut_at : ℕ → List ℕ → Option (List ℕ × List ℕ)
cut_at stop text = if nat_lt (place_of stop text) (length text) then Some (take (place_of stop text) text, drop (place_of stop text + 1) text) else None

-- the number that these digits are, of 1 to 18, with no zero before others
abbrev pub number_of : List ℕ → Option ℕ
number_of digits = option_and_then (λ n. some_if (bytes_eq (decimal n) digits) n) (number_in 18 digits)

-- the number before the first such byte, and what follows that byte
abbrev pub number_and : List ℕ × List ℕ → Option (ℕ × List ℕ)
number_and (digits, rest) = option_map (λ n. (n, rest)) (number_of digits)

abbrev pub number_before : ℕ → List ℕ → Option (ℕ × List ℕ)
number_before stop text = option_and_then number_and (cut_at stop text)
