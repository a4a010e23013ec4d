use Rattle.draw_lines.proofs.IvFacts.{count_told}
use Rattle.draw_lines.proofs.laws.one_line_repeats_no_iv.Goals as goal

pub returns : goal.returns
returns c line i j i_fits j_fits same =
    count_told line.boot line.boot line.pass_number line.pass_number i j i_fits j_fits same
