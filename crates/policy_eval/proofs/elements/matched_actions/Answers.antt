use Rattle.kms_names.specs.ActionSet.{IsActionLike, has_action}
use Rattle.policy_eval.specs.Matching.{ActionMatches}
use Rattle.policy_eval.proofs.MatchingFacts.{by_element, by_not_form, none_given, some_given}
use Rattle.policy_eval.proofs.elements.matched_actions.Goals as goal

pub returns-then-is_empty : goal.returns-then-is_empty
unfolding ActionMatches
returns-then-is_empty c = λ action.
    by_element (λ glob. IsActionLike glob action) c.args.statement.now.actions c.args.statement.now.not_actions
    (none_given _ _ _ c.as_slice.ensures c.is_empty.ensures c.if-is_empty.true) (has_action c.like.result action) (c.like.ensures action)

pub returns-else-is_empty : goal.returns-else-is_empty
unfolding ActionMatches
returns-else-is_empty c = λ action.
    rw (c.complement.ensures action)
    (by_not_form (λ glob. IsActionLike glob action) c.args.statement.now.actions c.args.statement.now.not_actions
    (some_given _ _ _ c.as_slice.ensures c.is_empty.ensures c.if-is_empty.false) (has_action c.like-else-is_empty.result action) (c.like-else-is_empty.ensures action))
