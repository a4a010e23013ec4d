use Rattle.std.proofs.Common.{◌≡◌, List, ℕ, ◌++◌, ◌+◌, drop, Some, sym, ap, ◌∙◌}
use Rattle.std.specs.Option.{option_map}
use Rattle.std.specs.List.{slice_get}
use Rattle.journal_file.specs.Journal.{entries_text}
use Rattle.journal_file.proofs.JournalFacts.{written_line}
use Rattle.journal_file.proofs.journals.append_entry.Goals as goal

pub returns : goal.returns
returns c =
    let history = c.args.account.now.entries in
    let place = c.args.place in
    let found : slice_get history place ≡ Some c.in-Some.entry.now = sym c.entry.ensures ∙ ap (λ o. option_map (λ e. e.now) o) c.in-Some.is in
    ap (λ (t : List ℕ). t ++ entries_text (drop (place + 1) history)) c.in_ok-extend_from_slice.ensures.items
    ∙ written_line c.args.text.now.items c.as_slice.result.now history place c.in-Some.entry.now found (c.as_slice.ensures ∙ c.in_ok-line.ensures)
