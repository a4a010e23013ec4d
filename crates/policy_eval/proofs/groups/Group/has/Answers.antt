use Rattle.std.proofs.Common.{◌≡◌, Bool, true, false, sym, ◌∙◌, subst}
use Rattle.std.specs.Prelude.{Any}
use Rattle.kms_names.specs.declared.action_sets.ActionSet.{ActionSet}
use Rattle.kms_names.specs.ActionSet.{has_action}
use Rattle.policy_eval.specs.Group.{IsAbout, Covers}
use Rattle.policy_eval.proofs.GroupFacts.{none_about}
use Rattle.policy_eval.proofs.groups.Group.has.Goals as goal
use Rattle.policy_eval.proofs.groups.Group.has.Goals.{then-allow, else-allow}

pub returns : goal.returns
returns c = λ lacks any.
    let kept = c.self.inside in
    let asked = c.args.self.now in
    let without = sym c.contains.ensures ∙ lacks in
    elim c.if-allow.branch [
      | then-allow w ↦
          none_about true kept.allowed asked c.args.action (subst (Covers true kept.allowed) c.self.view_is c.self.invariant.1)
          (subst (λ (set : ActionSet). has_action set c.args.action ≡ false) w.set-is without)
          (subst (λ (b : Bool). Any (λ s. IsAbout b s c.args.action) asked) w.if-allow.true any)
      | else-allow w ↦
          none_about false kept.denied asked c.args.action (subst (Covers false kept.denied) c.self.view_is c.self.invariant.0)
          (subst (λ (set : ActionSet). has_action set c.args.action ≡ false) w.set-is without)
          (subst (λ (b : Bool). Any (λ s. IsAbout b s c.args.action) asked) w.if-allow.false any)
    ]
