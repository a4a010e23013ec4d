use Rattle.std.specs.Prelude.{Any}
use Rattle.kms_names.specs.ActionSet.{IsActionLike}
use Rattle.kms_names.specs.declared.actions.Action.{Action}
use Rattle.policy_eval.proofs.MaskFacts.{IsMaskOf}
use Rattle.policy_eval.proofs.masks.action_mask.Given as goal

-- the actions so far have their bits where some glob matches, and no other bit is set
abbrev pub invariant-loop-action : goal.invariant-loop-action
invariant-loop-action l = IsMaskOf (λ (a : Action). Any (λ pattern. IsActionLike pattern a) l.patterns) l.action-index l.mask
