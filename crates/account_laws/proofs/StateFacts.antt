-- The answer of a key's state to what needs an enabled key.
use Rattle.std.proofs.Common.{◌≡◌, ℕ, nat_le, Bool, true, false, Some, sym, ap, ◌∙◌, refl, if◌then◌else◌}
use Rattle.kms_names.specs.declared.actions.Action.{Action}
use Rattle.kms_json.specs.declared.refusals.Refusal.TheVariants as refusal
use Rattle.kms_names.specs.declared.actions.Action.TheVariants as name
use Rattle.key_states.specs.declared.rows.KeyRow.{KeyRow}
use Rattle.key_states.specs.declared.states.State.TheVariants as state
use Rattle.key_states.specs.declared.states.Stored.{Stored}
use Rattle.key_states.specs.declared.states.Stored.TheVariants as at
use Rattle.key_states.specs.Permissions.{refusal_of, need_of}
use Rattle.key_states.specs.States.{state_of}
use Rattle.account_rows.specs.Changes.{is_gone, is_state_gone}
use Rattle.account_steps.specs.Parts.{refused_state, unfit_one, told_state}
use Rattle.account_steps.specs.Steps.{arn_of}
use Rattle.account_steps.specs.View.{View}
use Rattle.account_laws.specs.Laws.{exception_of}

module _ (view : View) (row : KeyRow) where
  pending_live : (date : ℕ) → is_state_gone (if nat_le date view.moment then state.Gone else state.PendingDeletion) ≡ false → nat_le date view.moment ≡ false
  pending_live date e = by_test (nat_le date view.moment) e
    where
      by_test : (b : Bool) → is_state_gone (if b then state.Gone else state.PendingDeletion) ≡ false → b ≡ false
      by_test true e = cc
      by_test false e = refl

  by_stored : (stored : Stored) → row.stored ≡ stored → is_gone view.moment row ≡ false
      → refused_state view row (refusal_of (need_of name.Decrypt) (state_of row.stored view.moment)) ≡ exception_of (arn_of view.facts row.key) stored
  by_stored at.Enabled is live = ap (λ (s : Stored). refused_state view row (refusal_of (need_of name.Decrypt) (state_of s view.moment))) is
  by_stored at.Disabled is live = ap (λ (s : Stored). refused_state view row (refusal_of (need_of name.Decrypt) (state_of s view.moment))) is
  by_stored (at.Pending date days) is live =
      let not_yet : nat_le date view.moment ≡ false = pending_live date (ap (λ (s : Stored). is_state_gone (state_of s view.moment)) (sym is) ∙ live) in
      ap (λ (s : Stored). refused_state view row (refusal_of (need_of name.Decrypt) (state_of s view.moment))) is
      ∙ ap (λ (b : Bool). refused_state view row (refusal_of (need_of name.Decrypt) (if b then state.Gone else state.PendingDeletion))) not_yet
      ∙ ap (λ (s : Stored). Some (refusal.InvalidState (arn_of view.facts row.key) (told_state s))) is

  -- a key that isn't gone, for an action that needs an enabled one
  pub by_state : (action : Action) → refusal_of (need_of action) (state_of row.stored view.moment) ≡ refusal_of (need_of name.Decrypt) (state_of row.stored view.moment)
      → (stored : Stored) → row.stored ≡ stored → is_gone view.moment row ≡ false
      → unfit_one view (record { action = action; key = row }) ≡ exception_of (arn_of view.facts row.key) stored
  unfolding unfit_one
  by_state action needs stored is live = ap (refused_state view row) needs ∙ by_stored stored is live
