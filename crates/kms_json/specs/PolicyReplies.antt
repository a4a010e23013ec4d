-- What the operations on key policies answer, with members in byte order of their names (AWS KMS API Reference, GetKeyPolicy and ListKeyPolicies).
use Rattle.std.specs.Prelude.{ℕ, List, codes, false}
use Rattle.serde_json.specs.Data.{Data, object, member, no_members, array, item, no_items, string, boolean}
use Rattle.kms_json.specs.Objects.{with_text}

abbrev pub key_policy_data : List ℕ → Data
key_policy_data policy = object (with_text (codes "Policy") policy (with_text (codes "PolicyName") (codes "default") no_members))

-- a key has one policy
abbrev pub key_policies_data : Data
key_policies_data = object (member (codes "PolicyNames") (array (item (string (codes "default")) no_items)) (member (codes "Truncated") (boolean false) no_members))
