-- The policy of a key is one of keys.
use Rattle.std.proofs.Common.{◌≡◌, ℕ, List, Option, Some, None, refl}
use Rattle.serde_json.specs.Data.{Data}
use Rattle.serde_json.specs.Read.{read as read_text}
use Rattle.policy_doc.specs.declared.faults.PolicyFault.{PolicyFault}
use Rattle.policy_doc.specs.declared.policies.PolicyKind.TheVariants.{Key}
use Rattle.key_policies.specs.KeyPolicy.{fault_in, value_policy, policy_without, policy_in}

value_kind : (value : Option Data) → (value_policy value).kind ≡ Key
value_kind None = refl
value_kind (Some d) = refl

kind_without : (fault : Option PolicyFault) (value : Option Data) → (policy_without fault value).kind ≡ Key
kind_without (Some why) value = refl
kind_without None value = value_kind value

pub kind_of_text : (text : List ℕ) → (policy_in text).kind ≡ Key
unfolding policy_in
kind_of_text text = kind_without (fault_in text) (read_text text)
