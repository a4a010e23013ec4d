use Rattle.std.proofs.Common.{◌≡◌, true, false, sym, ◌∙◌, List, ℕ}
use Rattle.std.specs.Prelude.{Any}
use Rattle.std.proofs.lemmas.List.{get_or_default}
use Rattle.kms_names.specs.Action.{all_actions}
use Rattle.kms_names.specs.ActionSet.{IsActionLike}
use Rattle.kms_names.specs.declared.actions.Action.{Action}
use Rattle.kms_names.proofs.ActionFacts.{none_yet, one_added, one_passed, all_passed}
use Rattle.kms_names.proofs.action_sets.ActionSet.like.Goals as goal
use Rattle.kms_names.proofs.action_sets.ActionSet.like.Goals.{then-is_like_some, else-is_like_some}

abbrev is_like : List (List ℕ) → Action → Type 0
is_like patterns a = Any (λ pattern. IsActionLike pattern a) patterns

pub returns : goal.returns
returns c = all_passed (is_like c.args.patterns.now) c.loop-action.action-index c.loop-action.set c.loop-action-test.false c.loop-action.invariant

pub loop-action-init : goal.loop-action-init
loop-action-init c = none_yet (is_like c.args.patterns.now) c.new-set.result c.new-set.ensures.empty

pub loop-action-preserved : goal.loop-action-preserved
loop-action-preserved c =
    let patterns = c.args.patterns.now in
    let asked = rw c.as_slice.ensures at c.is_like_some.ensures in
    elim c.if-is_like_some.branch [
      | then-is_like_some w ↦
          one_added (is_like patterns) c.loop-action.action-index c.loop-action.set c.if-is_like_some.set _ (get_or_default all_actions c.loop-action.action-index _ _ c.loop-action-test.true) (asked.0 w.if-is_like_some.true) (rw w.set-is w.insert.ensures.added)
          (rw w.set-is w.insert.ensures.others) c.loop-action.invariant
      | else-is_like_some w ↦
          rw w.set-is (one_passed (is_like patterns) c.loop-action.action-index c.loop-action.set _ (get_or_default all_actions c.loop-action.action-index _ _ c.loop-action-test.true) (λ p. let bad : false ≡ true = sym w.if-is_like_some.false ∙ asked.1 p in cc) c.loop-action.invariant)
    ]
