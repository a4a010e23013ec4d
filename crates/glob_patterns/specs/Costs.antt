-- The most steps that a match may take.
use Rattle.std.specs.Prelude.{ℕ, ◌+◌, ◌*◌, ◌/◌, List, length}
use Rattle.std.specs.Str.{chars}
use Rattle.kms_names.specs.Glob.{glob_cost}
use Rattle.glob_patterns.specs.declared.letters.Letters.{Letters}
use Rattle.glob_patterns.specs.declared.letters.Letters.TheVariants.{Ascii, Read, Unread}

-- of a text whose characters were read: a step for each character of the pattern and each 256 characters of the text
abbrev pub read_cost : List ℕ → List ℕ → ℕ
read_cost pattern text = length (chars pattern) * (length (chars text) / 256 + 1)

-- of a text by what was read of it: without memory for its characters the steps of the plain match
abbrev pub match_cost : List ℕ → List ℕ → Letters → ℕ
match_cost pattern text Ascii = read_cost pattern text
match_cost pattern text (Read characters) = read_cost pattern text
match_cost pattern text Unread = glob_cost pattern text
