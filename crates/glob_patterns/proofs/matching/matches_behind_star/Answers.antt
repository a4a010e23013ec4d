-- Each part that is found leaves what the whole needs, and where one is missing the whole doesn't match.
use Rattle.std.proofs.Common.{◌≤◌, ◌+◌, ◌*◌, ◌/◌, ◌∷◌, length, false, refl, rules, arith}
use Rattle.std.specs.Str.{chars}
use Rattle.kms_names.specs.Glob.{Globs, star}
use Rattle.glob_patterns.specs.Letters.{letters, read_as, units_of}
use Rattle.glob_patterns.proofs.LetterFacts.{letters_cut, no_star}
use Rattle.glob_patterns.proofs.PartFacts.{part_stands, part_missing, same_answer}
use Rattle.glob_patterns.proofs.StepFacts.{cut_long, part_passed}
use Rattle.glob_patterns.proofs.matching.matches_behind_star.Goals as goal

pub returns-in_default-behind_first_fit-clause-value : goal.returns-in_default-behind_first_fit-clause-value
returns-in_default-behind_first_fit-clause-value g c =
    let case = c.args.case in
    part_missing (Globs (star ∷ letters case c.args.pattern.now) (read_as case c.args.units))
    (letters case c.loop-segment.rest.now) (letters case c.in-Some.segment.now) (letters case c.in-Some.others.now) (read_as case c.loop-segment.left)
    (letters_cut case c.loop-segment.rest.now c.in-Some.segment.now c.in-Some.others.now c.in-Some.ensures.1)
    (no_star case c.in-Some.segment.now c.in-Some.ensures.0)
    c.loop-segment.invariant.as_good c.in_default-behind_first_fit.ensures.value false refl

pub loop-segment-preserved : goal.loop-segment-preserved
loop-segment-preserved g c =
    let case = c.args.case in
    record {
      utf8 = search rules;
      as_good = part_stands (Globs (star ∷ letters case c.args.pattern.now) (read_as case c.args.units))
          (letters case c.loop-segment.rest.now) (letters case c.in-Some.segment.now) (letters case c.in-Some.others.now) (read_as case c.loop-segment.left)
          (letters_cut case c.loop-segment.rest.now c.in-Some.segment.now c.in-Some.others.now c.in-Some.ensures.1)
          (no_star case c.in-Some.segment.now c.in-Some.ensures.0)
          c.loop-segment.invariant.as_good (read_as case c.in-Some-behind_first_fit.behind) c.in-Some-behind_first_fit.ensures.value;
      shorter = omega (arith, c.in-Some-behind_first_fit.ensures.shorter);
      cost = part_passed (length (chars c.in-Some.segment.now)) (length (chars c.in-Some.others.now)) (length (chars c.loop-segment.rest.now)) (length (units_of c.loop-segment.left)) (length (units_of c.args.units)) c.loop-segment.steps _ _
          (cut_long c.loop-segment.rest.now c.in-Some.segment.now c.in-Some.others.now c.in-Some.ensures.1) c.loop-segment.invariant.shorter c.in-Some-behind_first_fit.ensures.cost c.loop-segment.invariant.cost;
    }

pub returns-clause-value : goal.returns-clause-value
returns-clause-value g c =
    let case = c.args.case in
    same_answer c.is_end.result (Globs (star ∷ letters case c.args.pattern.now) (read_as case c.args.units)) (Globs (star ∷ letters case c.loop-segment.rest.now) (read_as case c.loop-segment.left))
    c.is_end.ensures.value c.loop-segment.invariant.as_good

pub returns-in_default-behind_first_fit-clause-cost : goal.returns-in_default-behind_first_fit-clause-cost
returns-in_default-behind_first_fit-clause-cost g c =
    omega (
      arith,
      part_passed (length (chars c.in-Some.segment.now)) (length (chars c.in-Some.others.now)) (length (chars c.loop-segment.rest.now)) (length (units_of c.loop-segment.left)) (length (units_of c.args.units)) c.loop-segment.steps _ _
          (cut_long c.loop-segment.rest.now c.in-Some.segment.now c.in-Some.others.now c.in-Some.ensures.1) c.loop-segment.invariant.shorter c.in_default-behind_first_fit.ensures.cost c.loop-segment.invariant.cost,
    )

pub returns-clause-cost : goal.returns-clause-cost
returns-clause-cost g c = omega (arith, c.is_end.ensures.cost, c.loop-segment.invariant.cost)
