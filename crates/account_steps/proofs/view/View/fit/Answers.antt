use Rattle.std.proofs.Common.{◌≡◌, ℕ, List, ap, ap₂, ◌∙◌, sym, Some, None}
use Rattle.kms_json.specs.declared.refusals.Refusal.TheVariants as refusal
use Rattle.key_states.specs.declared.permissions.StateFault.{StateFault}
use Rattle.key_states.specs.declared.permissions.StateFault.TheVariants as fault
use Rattle.key_states.specs.declared.rows.KeyRow.{KeyRow}
use Rattle.key_states.specs.Permissions.{refusal_of, need_of}
use Rattle.key_states.specs.States.{state_of}
use Rattle.account_steps.specs.Steps.{arn_of}
use Rattle.account_steps.specs.Parts.{told_state}
use Rattle.account_steps.proofs.Fit.{fits_by}
use Rattle.account_steps.proofs.view.View.fit.Goals as goal

pub returns-in_ok-arn-in-Some-Disabled : goal.returns-in_ok-arn-in-Some-Disabled
returns-in_ok-arn-in-Some-Disabled c =
    let view = c.args.self.now in
    let found : c.fault_of.result ≡ Some fault.Disabled = c.in-Some-Disabled.is ∙ ap (λ (f : StateFault). Some f) c.in-Some-Disabled.field-0-is in
    let is = sym found ∙ c.fault_of.ensures ∙ ap₂ (λ (r : KeyRow) (m : ℕ). refusal_of (need_of c.args.action) (state_of r.stored m)) c.row-row.ensures.row c.moment.ensures.moment in
    sym (fits_by view c.args.lent.now c.args.action (Some fault.Disabled) is)
    ∙ ap (λ (arn : List ℕ). Some (refusal.Disabled arn)) (sym (c.in_ok-arn-in-Some-Disabled.ensures ∙ ap (λ (r : KeyRow). arn_of view.facts r.key) c.row-row.ensures.row))

pub returns-in_ok-arn-in-Some-InvalidState : goal.returns-in_ok-arn-in-Some-InvalidState
returns-in_ok-arn-in-Some-InvalidState c =
    let view = c.args.self.now in
    let found : c.fault_of.result ≡ Some fault.InvalidState = c.in-Some-InvalidState.is ∙ ap (λ (f : StateFault). Some f) c.in-Some-InvalidState.field-0-is in
    let is = sym found ∙ c.fault_of.ensures ∙ ap₂ (λ (r : KeyRow) (m : ℕ). refusal_of (need_of c.args.action) (state_of r.stored m)) c.row-row.ensures.row c.moment.ensures.moment in
    sym (fits_by view c.args.lent.now c.args.action (Some fault.InvalidState) is)
    ∙ ap (λ (arn : List ℕ). Some (refusal.InvalidState arn (told_state c.args.lent.now.stored))) (sym (c.in_ok-arn-in-Some-InvalidState.ensures ∙ ap (λ (r : KeyRow). arn_of view.facts r.key) c.row-row.ensures.row))
    ∙ ap (λ s. Some (refusal.InvalidState c.in_ok-arn-in-Some-InvalidState.arn s)) (sym (c.told_state-state.ensures ∙ ap (λ (r : KeyRow). told_state r.stored) c.row-row.ensures.row))

pub returns-in-None : goal.returns-in-None
returns-in-None c =
    let is = sym c.in-None.is ∙ c.fault_of.ensures ∙ ap₂ (λ (r : KeyRow) (m : ℕ). refusal_of (need_of c.args.action) (state_of r.stored m)) c.row-row.ensures.row c.moment.ensures.moment in
    sym (fits_by c.args.self.now c.args.lent.now c.args.action None is)
