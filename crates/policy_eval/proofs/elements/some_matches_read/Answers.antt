use Rattle.std.proofs.Common.{◌≡◌, true, false, sym, ◌∙◌}
use Rattle.cond_ops.specs.Relation.{IsLike}
use Rattle.policy_eval.proofs.MatchingFacts.{none_first, some_first}
use Rattle.policy_eval.proofs.elements.some_matches_read.Goals as goal

pub loop-pattern-preserved : goal.loop-pattern-preserved
loop-pattern-preserved g c =
    none_first (IsLike c.args.resource.now) c.args.patterns c.loop-pattern.left c.in-Some.others c.in-Some.pattern.now c.in-Some.ensures
    (λ like. let bad : false ≡ true = sym c.if-matches_read.false ∙ c.matches_read.ensures.value.1 like in cc) c.loop-pattern.invariant

pub returns-then-matches_read : goal.returns-then-matches_read
returns-then-matches_read g c =
    some_first (IsLike c.args.resource.now) c.args.patterns c.loop-pattern.left c.in-Some.others c.in-Some.pattern.now c.in-Some.ensures
    (c.matches_read.ensures.value.0 c.if-matches_read.true) c.loop-pattern.invariant
