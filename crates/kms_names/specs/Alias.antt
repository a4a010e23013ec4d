-- Alias names.
use Rattle.std.specs.Prelude.{◌≡◌, ◌≢◌, ℕ, ◌≤◌, Bool, ◌||◌, ◌==◌, List, ◌++◌, length, codes}
use Rattle.std.specs.Char.{is_ascii_alphanumeric}
use Rattle.std.specs.List.{AllPass, list_any}

-- a letter, a digit or one of / _ -
abbrev pub is_alias_character : ℕ → Bool
is_alias_character c = is_ascii_alphanumeric c || list_any (λ d. d == c) (codes "/_-")

-- `alias/` and one or more of these characters, 256 in all at most, and no name that begins `alias/aws/`
abbrev pub IsAliasName : List ℕ → Type 0
IsAliasName text =
    (name : List ℕ) × (text ≡ codes "alias/" ++ name) × (1 ≤ length name) × (length text ≤ 256) × AllPass is_alias_character name
    × ((rest : List ℕ) → text ≢ codes "alias/aws/" ++ rest)
