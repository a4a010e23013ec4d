use Rattle.std.proofs.Common.{◌∙◌, sym, ap}
use Rattle.key_policies.specs.KeyPolicy.{policy_in, default_policy}
use Rattle.key_policies.proofs.Results.{ok_where}
use Rattle.key_policies.proofs.policies.KeyPolicy.of_text.Goals as goal

pub returns-then-is_default : goal.returns-then-is_default
unfolding default_policy
returns-then-is_default c =
    let same = sym c.as_str.ensures.value ∙ c.is_default.ensures.0 c.if-is_default.true in
    ok_where c.share.result (λ p e. e ∙ c.requires ∙ ap policy_in (sym same)) c.share.ensures
