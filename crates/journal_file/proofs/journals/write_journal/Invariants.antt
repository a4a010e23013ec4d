use Rattle.std.proofs.Common.{◌≡◌, ◌++◌, drop}
use Rattle.journal_file.specs.Journal.{entries_text, before_end}
use Rattle.journal_file.proofs.journals.write_journal.Given as goal

abbrev pub invariant-loop-place : goal.invariant-loop-place
invariant-loop-place l =
    l.text.items ++ entries_text (drop l.place l.account.entries) ≡ before_end l.account.facts.account l.account.facts.region l.account.facts.boot l.account.entries
