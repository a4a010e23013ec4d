-- Regions.
use Rattle.std.specs.Prelude.{ℕ, ◌≤◌, List, length}
use Rattle.std.specs.List.{AllPass}
use Rattle.kms_names.specs.Characters.{is_region_character}

-- 1 to 32 lower-case letters, digits and -
abbrev pub IsRegion : List ℕ → Type 0
IsRegion text = (1 ≤ length text) × (length text ≤ 32) × AllPass is_region_character text
