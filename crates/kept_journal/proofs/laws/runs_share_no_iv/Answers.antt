use Rattle.std.proofs.Common.{◌≡◌, ◌<◌, ◌^◌, ℕ, [], arith}
use Rattle.draw_lines.specs.Line.{Line}
use Rattle.kept_journal.proofs.Same.{starts_rise}
use Rattle.kept_journal.proofs.laws.runs_share_no_iv.Goals as goal

pub returns : goal.returns
returns c head before read changes file n m p q i j small low is holds above few pn qn ik jk same =
    let rise = starts_rise head before read changes file n m small low is holds above in
    let first : Line = record { seed = []; boot = n; pass_number = p; words = 0; ivs = 0 } in
    let second : Line = record { seed = []; boot = m; pass_number = q; words = 0; ivs = 0 } in
    let all = c.lines_share_no_iv.ensures first second i j (omega (arith, rise, few)) few pn qn ik jk same in
    absurd (omega (arith, rise, all.0))
