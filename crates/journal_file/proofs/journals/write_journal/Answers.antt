use Rattle.std.proofs.Common.{ℕ, ◌≤◌, List, ◌++◌, length, ap, ap₂, ◌∙◌, arith}
use Rattle.account_steps.specs.declared.facts.RealmFacts.{RealmFacts}
use Rattle.journal_file.specs.Journal.{before_end, seal_of, text_under}
use Rattle.journal_lines.specs.FrameLines.{end_line}
use Rattle.journal_file.proofs.JournalFacts.{written}
use Rattle.journal_file.proofs.journals.write_journal.Goals as goal

pub returns : goal.returns
unfolding text_under
returns c =
    let facts = c.args.account.now.facts in
    let history = c.args.account.now.entries in
    let before = before_end facts.account facts.region facts.boot history in
    let past : length history ≤ c.loop-place.place = omega arith in
    let text = written c.loop-place.text.items before history c.loop-place.place past c.loop-place.invariant in
    let root = ap (λ (f : RealmFacts). f.root) c.facts-facts.ensures in
    let seal = c.seal_of-seal.ensures ∙ ap₂ seal_of root (c.as_slice.ensures.value ∙ text) in
    c.new.ensures ∙ c.in_ok-append_end.ensures.ok ∙ ap₂ (λ (t e : List ℕ). t ++ e) text (ap₂ end_line c.entries.ensures.number seal)
