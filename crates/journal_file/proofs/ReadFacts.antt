-- What a line is that is read, and what it is that isn't.
use Rattle.std.proofs.Common.{◌≡◌, ◌≢◌, ℕ, List, Option, Some, None, sym, ap, ◌∙◌}
use Rattle.account_rows.specs.declared.entries.Entry.{Entry}
use Rattle.journal_lines.specs.Lines.{entry_line}
use Rattle.journal_lines.specs.LineReading.{entry_of}
use Rattle.journal_file.specs.Faults.{IsReadBack}

-- what isn't read is the line of no entry that is read back
pub no_line : (line : List ℕ) (found : Option Entry) → found ≡ entry_of line → found ≡ None → (entry : Entry) → IsReadBack entry → line ≢ entry_line entry
no_line line found is none entry back same =
    let told : None ≡ Some entry = sym none ∙ is ∙ ap entry_of same ∙ back in cc

-- the one entry that has a line, and is read back, is the one that is read
pub read_is : (line : List ℕ) (found : Option Entry) (read : Entry) → found ≡ entry_of line → found ≡ Some read → (entry : Entry) → IsReadBack entry → line ≡ entry_line entry → read ≡ entry
read_is line found read is some entry back same =
    let told : Some read ≡ Some entry = sym some ∙ is ∙ ap entry_of same ∙ back in cc
