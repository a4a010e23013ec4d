use Rattle.std.proofs.Common.{◌∙◌, subst, List, ℕ}
use Rattle.key_policies.proofs.DocumentFacts.{Reading, read_is}
use Rattle.key_policies.proofs.policies.read_key_policy.Goals as goal

module _ (c : goal.After-read_policy) where
  told : Reading c.args.text.now c.read_policy.result
  told =
      subst (λ (text : List ℕ). Reading text c.read_policy.result) (c.as_bytes.ensures.value ∙ c.as_str.ensures.value)
      (read_is c.as_bytes.result.now c.read_policy.result c.as_bytes.ensures.utf8 c.read_policy.ensures.too_long c.read_policy.ensures.ok c.read_policy.ensures.fault)

pub returns-clause-ok : goal.returns-clause-ok
returns-clause-ok c = (told c).0

pub returns-clause-fault : goal.returns-clause-fault
returns-clause-fault c = (told c).1
