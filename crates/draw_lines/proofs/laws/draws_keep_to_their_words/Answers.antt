use Rattle.std.proofs.Common.{arith}
use Rattle.draw_lines.proofs.DrawFacts.{draw_length, draw_byte}
use Rattle.draw_lines.proofs.laws.draws_keep_to_their_words.Goals as goal

pub returns : goal.returns
returns c seed place size =
    (draw_length seed place size, λ i below. (omega arith, draw_byte seed place size i below))
