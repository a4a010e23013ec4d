-- Lines of a head, each ended by a carriage return and a line feed (RFC 9112, section 2.2).
use Rattle.std.specs.Prelude.{◌≡◌, ℕ, ◌+◌, List, [], ◌∷◌, ◌++◌, Bool, false, ◌==◌, ◌||◌, if◌then◌else◌}

-- how many bytes stand before the first carriage return, or how many there are
abbrev pub line_size : List ℕ → ℕ
line_size [] = 0
line_size (byte ∷ bytes) = if byte == 13 then 0 else 1 + line_size bytes

-- a carriage return is among the bytes
abbrev pub has_return : List ℕ → Bool
has_return [] = false
has_return (byte ∷ bytes) = (byte == 13) || has_return bytes

abbrev pub line_text : List ℕ → List ℕ → List ℕ
line_text line more = line ++ 13 ∷ 10 ∷ more

-- a line that isn't empty
pub record IsLine (line : List ℕ) : Type 0 where
  pub first : ℕ
  pub others : List ℕ
  pub is : line ≡ first ∷ others
  pub one : has_return line ≡ false

-- what stands in a head behind Content-Length, the empty line at its end, and then this
pub data IsRest (text more : List ℕ) : Type 0 where
  no_line : text ≡ line_text [] more → IsRest text more
  two_lines : (date front : List ℕ) → IsLine date → IsLine front → text ≡ line_text date (line_text front (line_text [] more)) → IsRest text more
  three_lines : (date front close : List ℕ) → IsLine date → IsLine front → IsLine close
      → text ≡ line_text date (line_text front (line_text close (line_text [] more))) → IsRest text more
