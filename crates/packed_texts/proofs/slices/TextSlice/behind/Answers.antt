use Rattle.std.proofs.Common.{◌≤◌, arith}
use Rattle.packed_texts.proofs.CutFacts.{drop_next, drop_ended}
use Rattle.packed_texts.proofs.slices.TextSlice.behind.Goals as goal

pub loop-step-preserved : goal.loop-step-preserved
loop-step-preserved c = drop_next c.args.self.now c.loop-step.rest c.in-Some.others c.in-Some.field-0-0.now c.loop-step._step c.loop-step.invariant c.in-Some.ensures

pub returns-in_default : goal.returns-in_default
returns-in_default c =
    let le : c.loop-step._step ≤ c.args.count = omega arith in
    drop_ended c.args.self.now c.loop-step.rest c.loop-step._step c.args.count le c.loop-step.invariant c.in_default.ensures
