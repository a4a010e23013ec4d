use Rattle.std.proofs.Common.{◌∙◌, sym, ap, Bool, Some}
use Rattle.authority.specs.Setting.{Setting}
use Rattle.authority.specs.Allowed.{standing_of}
use Rattle.authority.specs.declared.standings.Standing.TheVariants.{Denied, Allowed, IfGranted}
use Rattle.account_steps.specs.Authority.{asked_of}
use Rattle.account_steps.proofs.Following.{ok_where}
use Rattle.account_steps.proofs.Authorizing.{by_standing}
use Rattle.account_steps.proofs.view.View.may_on_key.Goals as goal

pub returns-in-Denied : goal.returns-in-Denied
returns-in-Denied c =
    let asked = asked_of c.args.action c.args.arn.now c.args.said.now in
    by_standing c.args.self.now c.args.policy.now c.args.action c.args.key.now c.args.arn.now c.args.said.now Denied c.requires
    (sym c.in-Denied.is ∙ c.in_ok-standing.ensures ∙ ap (λ (s : Setting). standing_of s (Some c.args.policy.now) asked) c.setting-setting.ensures)

pub returns-in-Allowed : goal.returns-in-Allowed
returns-in-Allowed c =
    let asked = asked_of c.args.action c.args.arn.now c.args.said.now in
    by_standing c.args.self.now c.args.policy.now c.args.action c.args.key.now c.args.arn.now c.args.said.now Allowed c.requires
    (sym c.in-Allowed.is ∙ c.in_ok-standing.ensures ∙ ap (λ (s : Setting). standing_of s (Some c.args.policy.now) asked) c.setting-setting.ensures)

pub returns-in-IfGranted : goal.returns-in-IfGranted
returns-in-IfGranted c =
    let asked = asked_of c.args.action c.args.arn.now c.args.said.now in
    let by = by_standing c.args.self.now c.args.policy.now c.args.action c.args.key.now c.args.arn.now c.args.said.now IfGranted c.requires
    (sym c.in-IfGranted.is ∙ c.in_ok-standing.ensures ∙ ap (λ (s : Setting). standing_of s (Some c.args.policy.now) asked) c.setting-setting.ensures) in
    ok_where c.granted.result (λ (b : Bool) is. is ∙ by) c.granted.ensures
