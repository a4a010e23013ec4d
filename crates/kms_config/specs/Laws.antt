-- Laws of configurations.
use Rattle.std.specs.Prelude.{◌≡◌, ◌↔◌, ◌⊎◌, ℕ, List}
use Rattle.std.specs.Cmp.Lexicographic.{slice_cmp}
use Rattle.std.specs.List.{All}
use Rattle.std.specs.List.Sorted.{IsStrictlySortedBy}
use Rattle.std.specs.Ordering.{nat_cmp}
use Rattle.serde_json.specs.Data.{Data}
use Rattle.kms_names.specs.declared.principals.Principal.{Principal}
use Rattle.policy_doc.specs.ByteOrder.{IsInByteOrder}
use Rattle.authority.specs.Setting.{callers_policies}
use Rattle.authority.specs.Allowed.{AreIdentityPolicies}
use Rattle.kms_config.specs.declared.config.Config.{Config}
use Rattle.kms_config.specs.Config.{IsConfigOf, IsRefusedAt}
use Rattle.kms_config.specs.Configurations.{IsConfiguration, IsFaultyAt}
use Rattle.kms_config.specs.Grammar.{Configures}
use Rattle.kms_config.specs.Places.{HasForm, IsFirstFault, other_names, places_of}

-- whatever a configuration gives a caller are policies of the kind Identity, and so are the documents of the account's ceiling
abbrev pub ConfiguredPoliciesAreOfIdentities : Type 0
ConfiguredPoliciesAreOfIdentities =
    (bytes : List ℕ) (config : Config) → IsConfigOf bytes config
    → ((caller : Principal) → AreIdentityPolicies (callers_policies config.facts.identities caller)) × AreIdentityPolicies config.facts.ceiling

-- ---- the grammar

-- what the reader's clauses say of bytes is what the grammar says: they are a configuration of this, or have their first
-- fault at this path
abbrev pub ConfigurationsAreRead : Type 0
ConfigurationsAreRead =
    (bytes : List ℕ) → ((config : Config) → IsConfigOf bytes config ↔ IsConfiguration bytes config)
    × ((path : List ℕ) → IsRefusedAt bytes path ↔ IsFaultyAt bytes path)

-- a value configures one thing at most, and something exactly where each of its places has its form; else it has exactly
-- one first fault
pub record IsJudgedOnce (value : Data) : Type 0 where
  pub one : (config other : Config) → Configures value config → Configures value other → config ≡ other
  pub forms : ((config : Config) × Configures value config) ↔ All HasForm (places_of value)
  pub first : (path other : List ℕ) → IsFirstFault value path → IsFirstFault value other → path ≡ other
  pub either : ((config : Config) × Configures value config) ⊎ ((path : List ℕ) × IsFirstFault value path)
  pub apart : (config : Config) (path : List ℕ) → Configures value config → ¬ (IsFirstFault value path)

abbrev pub ValuesAreJudgedOnce : Type 0
ValuesAreJudgedOnce = (value : Data) → IsJudgedOnce value

-- the members of other names stand in byte order, where members do (`members_in_byte_order` of policy_doc: in each value)
abbrev pub OthersInByteOrder : Type 0
OthersInByteOrder =
    (names : List (List ℕ)) (d : Data) → IsInByteOrder d → IsStrictlySortedBy (slice_cmp nat_cmp) (other_names names d)
