use Rattle.std.proofs.Common.{◌≡◌, Bool, false, List, ℕ, length, drop, sym, ap, ◌∙◌, ne_eqb, arith}
use Rattle.std.specs.Prelude.{◌==◌, if◌then◌else◌, slice_range}
use Rattle.journal_lines.specs.Cuts.{behind_line}
use Rattle.kept_log.specs.Log.{lines, recovered}
use Rattle.kept_journal.specs.Reading.{behind_lines}
use Rattle.kept_journal.proofs.Following.{end_all, if_lost}
use Rattle.kept_journal.proofs.lost.has_lost.Goals as goal

pub returns-else-end-eq0 : goal.returns-else-end-eq0
returns-else-end-eq0 c =
    let bytes = c.args.bytes.now in
    let end = c.whole-end.result in
    let behind = slice_range bytes end (length bytes) in
    let is : behind ≡ behind_lines bytes = end_all end bytes ∙ ap (λ (n : ℕ). drop n bytes) c.whole-end.ensures.end in
    let some : (length (lines (recovered bytes)) == 0) ≡ false = ne_eqb (length (lines (recovered bytes))) 0 (λ e. omega (arith, e, c.if-end-eq0.false, c.whole-end.ensures.end)) in
    if_lost c.args.key.now bytes behind c.shows_next-else-end-eq0.result is (sym c.if-is_closed.ensures) (ap (λ (b : Bool). if b then behind_line (behind_lines bytes) else behind_lines bytes) some ∙ sym is)
    c.shows_next-else-end-eq0.ensures
