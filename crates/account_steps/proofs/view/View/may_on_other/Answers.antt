use Rattle.std.proofs.Common.{◌∙◌, ap, None}
use Rattle.authority.specs.Setting.{Setting}
use Rattle.authority.specs.Allowed.{standing_of}
use Rattle.account_steps.specs.Authority.{asked_of}
use Rattle.account_steps.proofs.Authorizing.{by_own_standing}
use Rattle.account_steps.proofs.view.View.may_on_other.Goals as goal

pub returns : goal.returns
returns c =
    let asked = asked_of c.args.action c.args.resource.now c.args.said.now in
    c.settled.ensures
    ∙ by_own_standing c.args.self.now c.args.action c.args.resource.now c.args.said.now c.in_ok-standing.standing
    (c.in_ok-standing.ensures ∙ ap (λ (s : Setting). standing_of s None asked) c.setting-setting.ensures)
