use Rattle.std.proofs.Common.{◌≡◌, ◌≤◌, ◌+◌, List, ℕ, length, take, drop, ap, ◌∙◌, arith}
use Rattle.std.proofs.lemmas.List.{drop_all}
use Rattle.kept_journal.proofs.Whole.{feed_count, lines_counted}
use Rattle.kept_journal.proofs.lost.count_lines.Goals as goal

pub returns-clause-number : goal.returns-clause-number
returns-clause-number c =
    let all = take c.whole.result c.args.bytes.now in
    let at = c.loop-byte.byte-index in
    let past : length all ≤ at = omega (arith, c.loop-byte-test.false) in
    let none : feed_count (drop at all) ≡ 0 = ap feed_count (drop_all at all past) in
    omega (arith, c.loop-byte.invariant.1, none, ap feed_count c.whole.ensures.lines, lines_counted c.args.bytes.now)
