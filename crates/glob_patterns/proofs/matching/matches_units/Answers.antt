-- What stands before the first `*` fits at the front, and the rest matches behind it.
use Rattle.std.proofs.Common.{◌≤◌, ◌+◌, ◌*◌, ◌/◌, length, false, refl, arith}
use Rattle.std.specs.Str.{chars}
use Rattle.glob_patterns.specs.Letters.{letters, read_as, units_of}
use Rattle.glob_patterns.proofs.LetterFacts.{letters_cut, no_star}
use Rattle.glob_patterns.proofs.PartFacts.{front_stands, front_missing}
use Rattle.glob_patterns.proofs.StepFacts.{cut_long, front_passed, one_by_one}
use Rattle.glob_patterns.proofs.matching.matches_units.Goals as goal

pub returns-in-Some-behind_front-clause-value : goal.returns-in-Some-behind_front-clause-value
returns-in-Some-behind_front-clause-value g c =
    let case = c.args.case in
    front_stands (letters case c.args.pattern.now) (letters case c.in-Some.front.now) (letters case c.in-Some.rest.now) (read_as case c.args.units)
    (letters_cut case c.args.pattern.now c.in-Some.front.now c.in-Some.rest.now c.in-Some.ensures.1)
    (no_star case c.in-Some.front.now c.in-Some.ensures.0)
    (read_as case c.in-Some-behind_front.left) c.in-Some-behind_front.ensures.value.0 c.in-Some-behind_front.ensures.value.1
    c.matches_behind_star.result c.matches_behind_star.ensures.value

pub returns-in-None-clause-value : goal.returns-in-None-clause-value
returns-in-None-clause-value g c =
    let case = c.args.case in
    front_missing (letters case c.args.pattern.now) (letters case c.in-Some.front.now) (letters case c.in-Some.rest.now) (read_as case c.args.units)
    (letters_cut case c.args.pattern.now c.in-Some.front.now c.in-Some.rest.now c.in-Some.ensures.1)
    (no_star case c.in-Some.front.now c.in-Some.ensures.0)
    c.in-None.ensures.value false refl

pub returns-in-Some-behind_front-clause-cost : goal.returns-in-Some-behind_front-clause-cost
returns-in-Some-behind_front-clause-cost g c =
    front_passed (length (chars c.in-Some.front.now)) (length (chars c.in-Some.rest.now)) (length (chars c.args.pattern.now)) (length (units_of c.in-Some-behind_front.left)) (length (units_of c.args.units)) c.args.steps.now _ _
    (cut_long c.args.pattern.now c.in-Some.front.now c.in-Some.rest.now c.in-Some.ensures.1) c.in-Some-behind_front.ensures.shorter c.in-Some-behind_front.ensures.cost c.matches_behind_star.ensures.cost

pub returns-in-None-clause-cost : goal.returns-in-None-clause-cost
returns-in-None-clause-cost g c =
    one_by_one (length (chars c.args.pattern.now)) (length (units_of c.args.units)) c.args.steps.now _
    (omega (arith, c.in-None.ensures.cost, cut_long c.args.pattern.now c.in-Some.front.now c.in-Some.rest.now c.in-Some.ensures.1))
