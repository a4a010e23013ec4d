use Rattle.std.proofs.Common.{◌∙◌, ap, rules}
use Rattle.key_policies.specs.KeyPolicy.{policy_in, default_policy}
use Rattle.key_policies.proofs.Results.{ok_where}
use Rattle.key_policies.proofs.policies.KeyPolicy.of_account.Goals as goal

pub returns : goal.returns
unfolding default_policy
returns c = ok_where c.of_document.result (λ p e. e ∙ ap policy_in (search rules)) c.of_document.ensures
