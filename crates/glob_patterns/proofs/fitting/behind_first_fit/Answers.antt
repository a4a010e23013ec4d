-- A part fits nowhere behind the last place that has room for it.
use Rattle.std.proofs.Common.{arith}
use Rattle.glob_patterns.specs.Letters.{letters, read_as}
use Rattle.glob_patterns.proofs.LetterFacts.{letters_long, read_long}
use Rattle.glob_patterns.proofs.PartFacts.{nowhere_short, nowhere}
use Rattle.glob_patterns.proofs.fitting.behind_first_fit.Goals as goal

pub returns-then-len-count-clause-value : goal.returns-then-len-count-clause-value
returns-then-len-count-clause-value g c =
    nowhere_short (letters c.args.case c.args.segment.now) (read_as c.args.case c.args.units)
    (omega (arith, letters_long c.args.case c.args.segment.now, read_long c.args.case c.args.units))

pub returns-in-None-clause-value : goal.returns-in-None-clause-value
returns-in-None-clause-value g c =
    let part = letters c.args.case c.args.segment.now in
    let text = read_as c.args.case c.args.units in
    let counted = letters_long c.args.case c.args.segment.now in
    let measured = read_long c.args.case c.args.units in
    nowhere part text (omega (arith, counted, measured))
    (λ k within. c.in-None.ensures.value k (omega (arith, counted, measured, within)))
