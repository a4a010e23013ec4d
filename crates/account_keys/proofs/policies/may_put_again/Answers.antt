use Rattle.std.proofs.Common.{◌≡◌, ℕ, List, Bool, ap, ap₂, sym, ◌∙◌}
use Rattle.authority.specs.Setting.{Particulars}
use Rattle.kms_names.specs.declared.actions.Action.TheVariants as action
use Rattle.account_steps.specs.Authority.{KeySaid, may_on_key}
use Rattle.account_keys.specs.Policies.{may_put_again}
use Rattle.account_steps.proofs.Following.{ok_where}
use Rattle.account_keys.proofs.policies.may_put_again.Goals as goal

pub returns : goal.returns
unfolding may_put_again
returns c =
    let key : c.key.inside.key.now ≡ c.args.key.now.key = ap (λ (said : KeySaid). said.key) c.key.view_is in
    ok_where c.may_on_key.result
    (λ (b : Bool) is. is ∙ ap₂ (λ (k : List ℕ) (said : Particulars). may_on_key c.args.view.now c.args.policy.now action.PutKeyPolicy k said) key c.of_policy-said.ensures) c.may_on_key.ensures
