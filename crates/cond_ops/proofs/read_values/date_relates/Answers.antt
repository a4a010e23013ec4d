use Rattle.std.proofs.Common.{FitsSigned, w64, rules}
use Rattle.std.proofs.lemmas.Int.{to_z-of_z}
use Rattle.cond_ops.specs.Moment.{IsMoment}
use Rattle.cond_ops.proofs.ReadingFacts.{one_moment}
use Rattle.cond_ops.proofs.RelatedFacts.{compares_some, compares_none}
use Rattle.cond_ops.proofs.read_values.date_relates.Goals as goal

pub returns-in-Some : goal.returns-in-Some
returns-in-Some c =
    let left : FitsSigned w64 c.args.left = search rules in
    let right : FitsSigned w64 c.in-Some.right = search rules in
    compares_some IsMoment one_moment c.args.order c.args.policy.now c.args.left c.in-Some.right c.in-Some.ensures c.compares.result (simp to_z-of_z at c.compares.ensures)

pub returns-in-None : goal.returns-in-None
returns-in-None c = compares_none IsMoment one_moment c.args.order c.args.policy.now c.args.left c.in-None.ensures
