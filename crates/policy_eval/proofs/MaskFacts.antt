-- The bits of the actions that globs match.
use Rattle.std.proofs.Common.{◌≡◌, ℕ, ◌<◌, ◌+◌, ◌*◌, ◌^◌, ◌%◌, false, length, get_or, refl, sym, ◌∙◌, subst, lit<, ap, ◌==◌}
use Rattle.std.specs.Prelude.{bit_or}
use Rattle.std.specs.Int.{bit_at}
use Rattle.std.proofs.lemmas.Nat.{or_lt}
use Rattle.std.proofs.lemmas.Nat.Bits.{bit_at-zero}
use Rattle.kms_names.specs.Action.{all_actions, action_number}
use Rattle.kms_names.specs.ActionSet.{with_action}
use Rattle.kms_names.specs.declared.actions.Action.{Action}
use Rattle.kms_names.specs.declared.actions.Action.TheVariants as action
use Rattle.kms_names.proofs.ActionFacts.{IsSetOf, none_yet, one_added, one_passed, with_bit, has_added, has_others}

-- one shifted to the place of an action
small_bit : (a : Action) → 1 * 2 ^ action_number a % 2 ^ 64 < 2 ^ length all_actions
small_bit action.CreateKey = lit< tt
small_bit _ = lit< tt

-- the mask has those of the first n actions that have a property, and nothing else
pub record IsMaskOf (P : Action → Type 0) (n mask : ℕ) : Type 0 where
  pub set : IsSetOf P n mask
  pub small : mask < 2 ^ length all_actions

module _ (P : Action → Type 0) where
  pub no_bits : IsMaskOf P 0 0
  no_bits = record { set = none_yet P 0 (λ a. empty (action_number a)); small = lit< tt }
    where
      empty : (n : ℕ) → (bit_at 0 n == 1) ≡ false
      empty n = ap (λ b. b == 1) (bit_at-zero n)

  pub one_bit : (n old new : ℕ) (one : Action) → one ≡ get_or all_actions n one → P one → new ≡ bit_or old (1 * 2 ^ action_number one % 2 ^ 64) → IsMaskOf P n old → IsMaskOf P (n + 1) new
  one_bit n old new one is here sum so_far =
      let same : new ≡ with_action one old = sum ∙ with_bit old old refl one in
      record {
        set = subst (IsSetOf P (n + 1)) (sym same) (one_added P n old (with_action one old) one is here (has_added old one) (has_others old one) so_far.set);
        small = subst (λ m. m < 2 ^ length all_actions) (sym sum) (or_lt (length all_actions) old (1 * 2 ^ action_number one % 2 ^ 64) so_far.small (small_bit one));
      }

  pub no_bit : (n mask : ℕ) (one : Action) → one ≡ get_or all_actions n one → ¬ (P one) → IsMaskOf P n mask → IsMaskOf P (n + 1) mask
  no_bit n mask one is none so_far = record { set = one_passed P n mask one is none so_far.set; small = so_far.small }
