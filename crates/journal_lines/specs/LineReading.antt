-- What a line is read as: an entry whose line it is, byte by byte.
use Rattle.std.specs.Prelude.{ℕ, ◌-◌, List, length, take, if◌then◌else◌, Option, None, option_and_then}
use Rattle.std.specs.Str.{bytes_eq, is_utf8}
use Rattle.kms_names.specs.Reading.{some_if}
use Rattle.serde_json.specs.Data.{Data}
use Rattle.serde_json.specs.Read.{read}
use Rattle.account_rows.specs.declared.entries.Entry.{Entry}
use Rattle.journal_lines.specs.Entries.{entry_in}
use Rattle.journal_lines.specs.Lines.{entry_line}

-- the JSON value of a text, where it is UTF-8
unfoldable pub value_of : List ℕ → Option Data
value_of text = if is_utf8 text then read text else None

-- the entry, where the line is its line
abbrev pub if_line_of : List ℕ → Entry → Option Entry
if_line_of line entry = some_if (bytes_eq (entry_line entry) line) entry

-- what stands before the last byte
abbrev pub before_last : List ℕ → List ℕ
before_last line = take (length line - 1) line

unfoldable pub entry_of : List ℕ → Option Entry
entry_of line = option_and_then (if_line_of line) (option_and_then entry_in (value_of (before_last line)))
