use Rattle.std.proofs.Common.{◌≡◌, ◌*◌, ◌^◌, ◌%◌, true, false, sym, ap, ◌∙◌, List, ℕ}
use Rattle.std.specs.Prelude.{Any, bit_or}
use Rattle.std.proofs.lemmas.List.{get_or_default}
use Rattle.kms_names.specs.Action.{all_actions}
use Rattle.kms_names.specs.ActionSet.{IsActionLike}
use Rattle.kms_names.specs.declared.actions.Action.{Action}
use Rattle.kms_names.proofs.ActionFacts.{all_passed}
use Rattle.policy_eval.proofs.MaskFacts.{no_bits, one_bit, no_bit}
use Rattle.policy_eval.proofs.masks.action_mask.Goals as goal
use Rattle.policy_eval.proofs.masks.action_mask.Goals.{then-is_like_some, else-is_like_some}

abbrev is_like : List (List ℕ) → Action → Type 0
is_like patterns a = Any (λ pattern. IsActionLike pattern a) patterns

pub returns-clause-each : goal.returns-clause-each
returns-clause-each c = all_passed (is_like c.args.patterns.now) c.loop-action.action-index c.loop-action.mask c.loop-action-test.false c.loop-action.invariant.set

pub loop-action-init : goal.loop-action-init
loop-action-init c = no_bits (is_like c.args.patterns.now)

pub loop-action-preserved : goal.loop-action-preserved
loop-action-preserved c =
    let patterns = c.args.patterns.now in
    elim c.if-is_like_some.branch [
      | then-is_like_some w ↦
          one_bit (is_like patterns) c.loop-action.action-index c.loop-action.mask _ _ (get_or_default all_actions c.loop-action.action-index _ _ c.loop-action-test.true)
          (c.is_like_some.ensures.0 w.if-is_like_some.true) (w.mask-is ∙ ap (λ n. bit_or c.loop-action.mask (1 * 2 ^ n % 2 ^ 64)) w.number.ensures) c.loop-action.invariant
      | else-is_like_some w ↦
          rw w.mask-is
          (no_bit (is_like patterns) c.loop-action.action-index c.loop-action.mask _ (get_or_default all_actions c.loop-action.action-index _ _ c.loop-action-test.true)
          (λ p. let bad : false ≡ true = sym w.if-is_like_some.false ∙ c.is_like_some.ensures.1 p in cc) c.loop-action.invariant)
    ]
