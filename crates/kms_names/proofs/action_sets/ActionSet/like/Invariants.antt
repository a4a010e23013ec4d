use Rattle.std.specs.Prelude.{Any}
use Rattle.kms_names.specs.ActionSet.{IsActionLike}
use Rattle.kms_names.specs.declared.actions.Action.{Action}
use Rattle.kms_names.proofs.ActionFacts.{IsSetOf}
use Rattle.kms_names.proofs.action_sets.ActionSet.like.Given as goal

-- the actions so far are in the set where some glob matches, and no other action is
abbrev pub invariant-loop-action : goal.invariant-loop-action
invariant-loop-action l = IsSetOf (λ (a : Action). Any (λ pattern. IsActionLike pattern a) l.patterns) l.action-index l.set
