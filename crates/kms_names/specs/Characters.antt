-- The characters that names are written in.
use Rattle.std.specs.Prelude.{ℕ, Bool, ◌||◌, ◌==◌, codes}
use Rattle.std.specs.Char.{is_ascii_alphanumeric, is_ascii_lowercase, is_ascii_digit}
use Rattle.std.specs.List.{list_any}

-- a letter, a digit or one of + = , . @ _ / -
abbrev pub is_name_character : ℕ → Bool
is_name_character c = is_ascii_alphanumeric c || list_any (λ d. d == c) (codes "+=,.@_/-")

-- a lower-case letter, a digit or -
abbrev pub is_region_character : ℕ → Bool
is_region_character c = (is_ascii_lowercase c || is_ascii_digit c) || (c == 45)
