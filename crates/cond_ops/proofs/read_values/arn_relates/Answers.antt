use Rattle.cond_ops.specs.Arn.{parts_of}
use Rattle.cond_ops.proofs.RelatedFacts.{like_some}
use Rattle.cond_ops.proofs.read_values.arn_relates.Goals as goal

pub returns-in-Some : goal.returns-in-Some
returns-in-Some c =
    like_some c.args.arn.now c.args.policy.now (parts_of c.in-Some.pattern) c.in-Some.ensures c.is_like.result c.is_like.ensures

pub returns-in-None : goal.returns-in-None
returns-in-None c = (λ yes. cc, λ like. absurd (c.in-None.ensures like.0 like.1))
