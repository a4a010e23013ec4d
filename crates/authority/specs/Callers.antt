-- The policies of callers, by the callers' ARNs.
use Rattle.std.specs.Prelude.{◌≡◌, ℕ, Bool, true, false, List, Option, Some, None, option_map, String, Vec}
use Rattle.std.specs.HashMap.{HashMap, get_by_text}
use Rattle.std.specs.Map.{lookup}
use Rattle.std.specs.Str.{bytes_eq}
use Rattle.policy_doc.specs.declared.policies.Policy.{Policy}
use Rattle.authority.specs.declared.identities.Identity.{Identity}
use Rattle.authority.specs.Setting.{identity_at}

-- the policies that stand at an ARN
abbrev pub policies_at : List (List ℕ × List Policy) → List ℕ → Option (List Policy)
policies_at callers arn = lookup (bytes_eq arn) callers

-- at each ARN stand the policies of the first identity of this ARN
abbrev pub ArePoliciesOf : List (List ℕ × List Policy) → List Identity → Type 0
ArePoliciesOf callers identities = (arn : List ℕ) → policies_at callers arn ≡ option_map (λ (identity : Identity). identity.policies) (identity_at identities arn)

-- what a map keeps at an ARN
abbrev pub kept_at : {Y Z S : Type 0} → HashMap (String Y) (Vec Policy Z) S → List ℕ → Option (List Policy)
kept_at {Y} {Z} {S} map arn = option_map (λ policies. policies.items) (get_by_text map arn)

abbrev pub if_same : Bool → List Policy → Option (List Policy)
if_same true policies = Some policies
if_same false policies = None
