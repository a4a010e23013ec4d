use Rattle.std.proofs.Common.{refl}
use Rattle.cond_ops.specs.Relation.{IsLike}
use Rattle.policy_eval.proofs.MatchingFacts.{by_element, by_not_form, none_given, some_given}
use Rattle.access_explain.proofs.statements.is_on.Goals as goal

pub returns-then-is_empty : goal.returns-then-is_empty
returns-then-is_empty c =
    by_element (IsLike c.args.resource.now) c.args.globs.now c.args.others.now (none_given _ _ _ refl c.is_empty.ensures c.if-is_empty.true) c.some_globs.result c.some_globs.ensures

pub returns-else-is_empty : goal.returns-else-is_empty
returns-else-is_empty c =
    by_not_form (IsLike c.args.resource.now) c.args.globs.now c.args.others.now (some_given _ _ _ refl c.is_empty.ensures c.if-is_empty.false) c.some_globs-else-is_empty.result
    c.some_globs-else-is_empty.ensures
