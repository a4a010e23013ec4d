-- The journal's text.
use Rattle.std.specs.Prelude.{ℕ, List, ◌++◌, length, codes}
use Rattle.std.specs.List.{flat_map}
use Rattle.mac_sha.specs.Hmac.{hmac_sha256}
use Rattle.account_steps.specs.declared.facts.RealmFacts.{RealmFacts}
use Rattle.account_rows.specs.declared.entries.Entry.{Entry}
use Rattle.journal_lines.specs.Lines.{entry_line}
use Rattle.journal_lines.specs.FrameLines.{head_line, end_line}

-- the lines of entries
abbrev pub entries_text : List Entry → List ℕ
entries_text history = flat_map entry_line history

-- the HMAC of what comes before the last line, under the root secret
abbrev pub seal_of : List ℕ → List ℕ → List ℕ
seal_of root before = hmac_sha256 root (codes "journal" ++ before)

-- what comes before the last line
abbrev pub before_end : List ℕ → List ℕ → ℕ → List Entry → List ℕ
before_end account region boot history = head_line account region boot ++ entries_text history

-- the text of a history under an account, a region, a root secret and a boot number
unfoldable pub text_under : List ℕ → List ℕ → List ℕ → ℕ → List Entry → List ℕ
text_under account region root boot history =
    before_end account region boot history ++ end_line (length history) (seal_of root (before_end account region boot history))

-- the text of an account's history
abbrev pub journal_text : RealmFacts → List Entry → List ℕ
journal_text facts history = text_under facts.account facts.region facts.root facts.boot history
