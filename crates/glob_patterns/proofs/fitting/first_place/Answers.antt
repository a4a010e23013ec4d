-- Places that are looked at from a later start are places of the whole.
use Rattle.std.proofs.Common.{◌≡◌, ◌+◌, ◌-◌, ◌/◌, ◌<◌, ◌≤◌, ℕ, false, drop, length, take, subst, arith}
use Rattle.std.proofs.lemmas.List.{length-take-le}
use Rattle.glob_patterns.specs.Fits.{IsFirstFit, fits}
use Rattle.glob_patterns.specs.Letters.{letters, read_as}
use Rattle.glob_patterns.proofs.MarkFacts.{earlier_more, first_more}
use Rattle.glob_patterns.proofs.StepFacts.{window_passed}
use Rattle.glob_patterns.proofs.fitting.first_place.Goals as goal

pub returns-in-Some-clause-value : goal.returns-in-Some-clause-value
returns-in-Some-clause-value g c =
    let part = letters c.args.case c.args.segment.now in
    let text = read_as c.args.case c.args.units in
    let lanes = c.lanes_of-lanes.result in
    let roomy : lanes ≤ length c.loop-start.flags = omega (arith, c.from.array_long) in
    let long : length (take lanes c.loop-start.flags) ≡ lanes = length-take-le lanes c.loop-start.flags roomy in
    let inside : c.in-Some.k < lanes = omega (arith, c.in-Some.ensures.value.0, long) in
    let first : IsFirstFit part (drop c.loop-start.start text) c.in-Some.k = subst (λ t. IsFirstFit part t c.in-Some.k) (c.from.ensures.value c.args.case) c.in-Some.ensures.value.1 in
    (omega (arith, inside), first_more part text c.loop-start.start c.loop-start.invariant.earlier c.in-Some.k first)

pub loop-start-preserved : goal.loop-start-preserved
loop-start-preserved g c =
    let part = letters c.args.case c.args.segment.now in
    let text = read_as c.args.case c.args.units in
    let start = c.loop-start.start in
    let lanes = c.lanes_of-lanes.result in
    let roomy : lanes ≤ length c.loop-start.flags = omega (arith, c.from.array_long) in
    let long : length (take lanes c.loop-start.flags) ≡ lanes = length-take-le lanes c.loop-start.flags roomy in
    let none : (k : ℕ) → k < lanes → fits part (drop k (drop start text)) ≡ false =
    λ k within. subst (λ t. fits part (drop k t) ≡ false) (c.from.ensures.value c.args.case) (c.in_default.ensures.value k (omega (arith, within, long))) in
    record {
      within = omega arith;
      earlier = earlier_more part text start c.loop-start.invariant.earlier lanes none;
      cost = window_passed (length part + 1) c.loop-start.steps _ ((c.args.places - start + 255) / 256) ((c.args.places - (start + lanes) + 255) / 256) _
          c.in_default.ensures.cost (omega (arith, c.lanes_of-lanes.ensures.windows)) c.loop-start.invariant.cost;
    }
