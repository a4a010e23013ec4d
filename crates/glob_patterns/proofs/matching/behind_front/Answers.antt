-- A part that is longer than the text doesn't fit.
use Rattle.std.proofs.Common.{arith}
use Rattle.glob_patterns.specs.Letters.{letters, read_as}
use Rattle.glob_patterns.proofs.LetterFacts.{letters_long, read_long}
use Rattle.glob_patterns.proofs.PartFacts.{nowhere_short}
use Rattle.glob_patterns.proofs.matching.behind_front.Goals as goal

pub returns-then-len-count-clause-value : goal.returns-then-len-count-clause-value
returns-then-len-count-clause-value g c =
    nowhere_short (letters c.args.case c.args.front.now) (read_as c.args.case c.args.units)
    (omega (arith, letters_long c.args.case c.args.front.now, read_long c.args.case c.args.units)) 0
