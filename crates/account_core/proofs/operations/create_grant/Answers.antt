use Rattle.std.proofs.Common.{subst}
use Rattle.kms_json.specs.declared.asks.grants.CreateGrant.{CreateGrant}
use Rattle.account_steps.specs.View.{View}
use Rattle.account_keys.specs.Grants.{creates_grant}
use Rattle.account_core.specs.Operations.{Says}
use Rattle.account_core.proofs.operations.create_grant.Goals as goal

pub returns : goal.returns
returns g c =
    let result = c.visit.result in
    subst (λ (view : View). Says (g.V.ChangeVisitor.answers c.args.to.now view (creates_grant view c.args.request.now)) result) c.in_ok-creating.ensures.0
    (subst (λ (x : CreateGrant). Says (g.V.ChangeVisitor.answers c.args.to.now c.in_ok-creating.creating.view.now (creates_grant c.in_ok-creating.creating.view.now x)) result) c.in_ok-creating.ensures.1 c.visit.ensures)
