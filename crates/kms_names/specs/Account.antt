-- Account numbers.
use Rattle.std.specs.Prelude.{◌≡◌, ℕ, List, length}
use Rattle.std.specs.Char.{is_ascii_digit}
use Rattle.std.specs.List.{AllPass}

-- twelve decimal digits
abbrev pub IsAccountNumber : List ℕ → Type 0
IsAccountNumber text = (length text ≡ 12) × AllPass is_ascii_digit text
