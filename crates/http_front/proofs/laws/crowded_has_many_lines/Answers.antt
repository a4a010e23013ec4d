use Rattle.http_front.proofs.ManyLines.{many_lines}
use Rattle.http_front.proofs.laws.crowded_has_many_lines.Goals as goal

pub returns : goal.returns
returns c = many_lines
