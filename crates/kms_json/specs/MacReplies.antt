-- What the operations on MACs answer, with members in byte order of their names (AWS KMS API Reference, GenerateMac and VerifyMac).
use Rattle.std.specs.Prelude.{ℕ, List, codes, true}
use Rattle.serde_json.specs.Data.{Data, object, member, no_members, boolean}
use Rattle.kms_json.specs.Objects.{hmac_sha_256, with_text}

abbrev pub mac_data : List ℕ → List ℕ → Data
mac_data mac arn = object (with_text (codes "KeyId") arn (with_text (codes "Mac") mac (with_text (codes "MacAlgorithm") hmac_sha_256 no_members)))

-- a MAC that isn't valid is refused
abbrev pub mac_valid_data : List ℕ → Data
mac_valid_data arn = object (with_text (codes "KeyId") arn (with_text (codes "MacAlgorithm") hmac_sha_256 (member (codes "MacValid") (boolean true) no_members)))
