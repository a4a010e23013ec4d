-- What the generator writes from the line's place on is the draw.
use Rattle.std.proofs.Common.{rules}
use Rattle.draw_lines.proofs.DrawFacts.{fill_draws}
use Rattle.draw_lines.proofs.line.DrawLine.draw.Goals as goal

pub returns-clause-bytes : goal.returns-clause-bytes
returns-clause-bytes c = search (rules, fill_draws)
