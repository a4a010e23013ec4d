use Rattle.std.proofs.Common.{Option, refl, subst}
use Rattle.kms_json.specs.declared.refusals.Refusal.{Refusal}
use Rattle.account_steps.specs.Steps.{Passes}
use Rattle.account_steps.specs.Authority.{on_other}
use Rattle.account_steps.proofs.Authorizing.{as_asked}
use Rattle.account_steps.proofs.view.View.authorize.Goals as goal

pub returns : goal.returns
returns c =
    let view = c.args.self.now in
    subst (λ (wanted : Option Refusal). Passes wanted c.pass.result)
    (as_asked view (on_other c.args.action c.args.resource.now c.args.said.now) c.args.action c.in_ok-from_str.field-0 c.in_ok-allowed.allowed refl c.in_ok-from_str.ensures c.in_ok-allowed.ensures) c.pass.ensures
