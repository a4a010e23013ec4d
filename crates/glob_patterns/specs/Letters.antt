-- The characters of patterns and of texts as they are compared.
use Rattle.std.specs.Prelude.{◌≡◌, ℕ, List, map, ⊤}
use Rattle.std.specs.Char.{to_ascii_lowercase}
use Rattle.std.specs.Str.{chars, IsAscii}
use Rattle.glob_patterns.specs.declared.cases.Case.{Case}
use Rattle.glob_patterns.specs.declared.cases.Case.TheVariants.{Exact, AsciiIgnored}
use Rattle.glob_patterns.specs.declared.letters.Letters.{Letters}
use Rattle.glob_patterns.specs.declared.letters.Letters.TheVariants.{Ascii, Read, Unread}
use Rattle.glob_patterns.specs.declared.units.Units.{Units}
use Rattle.glob_patterns.specs.declared.units.Units.TheVariants.{Bytes, Chars}

-- a character as it is compared
abbrev pub folded : Case → ℕ → ℕ
folded Exact c = c
folded AsciiIgnored c = to_ascii_lowercase c

-- the characters of a text as they are compared
abbrev pub letters : Case → List ℕ → List ℕ
letters case text = map (folded case) (chars text)

-- the characters that are kept
abbrev pub units_of : Units → List ℕ
units_of (Bytes bytes) = bytes.now
units_of (Chars chars) = chars.now

-- these as they are compared
abbrev pub read_as : Case → Units → List ℕ
read_as case units = map (folded case) (units_of units)

-- what was read of a text
abbrev pub AreLettersOf : List ℕ → Letters → Type 0
AreLettersOf text Ascii = IsAscii text
AreLettersOf text (Read characters) = characters.items ≡ chars text
AreLettersOf text Unread = ⊤
