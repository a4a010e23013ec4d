use Rattle.draw_lines.proofs.IvFacts.{boot_told, pass_told, count_told}
use Rattle.draw_lines.proofs.laws.lines_share_no_iv.Goals as goal

pub returns : goal.returns
returns c a b i j a_boot b_boot a_pass b_pass i_fits j_fits same = (
  boot_told a.boot b.boot a.pass_number b.pass_number i j a_boot b_boot same,
  pass_told a.boot b.boot a.pass_number b.pass_number i j a_pass b_pass same,
  count_told a.boot b.boot a.pass_number b.pass_number i j i_fits j_fits same,
)
