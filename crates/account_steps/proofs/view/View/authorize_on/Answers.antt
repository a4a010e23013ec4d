use Rattle.std.proofs.Common.{Option, refl, ap, ap₂, ◌∙◌, subst}
use Rattle.policy_doc.specs.declared.policies.Policy.{Policy}
use Rattle.kms_json.specs.declared.refusals.Refusal.{Refusal}
use Rattle.key_states.specs.declared.rows.KeyRow.{KeyRow}
use Rattle.account_steps.specs.Steps.{Passes, arn_of}
use Rattle.account_steps.specs.Authority.{on_key, may_on_key}
use Rattle.account_steps.proofs.Authorizing.{as_asked}
use Rattle.account_steps.proofs.view.View.authorize_on.Goals as goal

pub may_on_key-requires : goal.may_on_key-requires
may_on_key-requires c = c.as_str.ensures.value ∙ c.in_ok-arn.ensures

pub returns : goal.returns
returns c =
    let view = c.args.self.now in
    let there = c.in_ok-arn.ensures ∙ ap (λ (row : KeyRow). arn_of view.facts row.key) c.row.ensures.row in
    let allowed = c.in_ok-allowed.ensures ∙ ap₂ (λ (p : Policy) (row : KeyRow). may_on_key view p c.args.action row.key c.args.said.now) c.policy.ensures c.row.ensures.row in
    subst (λ (wanted : Option Refusal). Passes wanted c.pass.result)
    (as_asked view (on_key c.args.action c.args.lent.now c.args.said.now) c.args.action c.in_ok-arn.arn c.in_ok-allowed.allowed refl there allowed) c.pass.ensures
