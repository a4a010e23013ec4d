-- The JSON values of what an entry holds: ids in lower-case hex, and all texts but names of kinds and operations in base64.
use Rattle.std.specs.Prelude.{ℕ, List, codes, Option, Some, None}
use Rattle.hex.specs.Hex.{encode_lower}
use Rattle.hmac_keys.specs.declared.kinds.KeyKind.{KeyKind}
use Rattle.hmac_keys.specs.declared.kinds.KeyKind.TheVariants.{Symmetric, Hmac256}
use Rattle.kms_names.specs.Principal.{principal_text}
use Rattle.kms_names.specs.declared.principals.Principal.{Principal}
use Rattle.enc_context.specs.Encoding.{encoding_of}
use Rattle.enc_context.specs.declared.pairs.Pair.{Pair}
use Rattle.grant_table.specs.declared.constraints.Constraint.{Constraint}
use Rattle.grant_table.specs.declared.constraints.Constraint.TheVariants.{Free, Equals, Subset}
use Rattle.resource_tags.specs.declared.tags.Tag.{Tag}
use Rattle.serde_json.specs.Data.{Data, object, member, no_members, string}
use Rattle.kms_json.specs.Objects.{base64_text, list_data}

-- bytes as the text of their base64 (RFC 4648, section 4)
abbrev pub base64_data : List ℕ → Data
base64_data bytes = string (base64_text bytes)

-- an id as its lower-case hex digits (RFC 4648, section 8)
abbrev pub hex_data : List ℕ → Data
hex_data bytes = string (encode_lower bytes)

-- a principal as its ARN
abbrev pub principal_data : Principal → Data
principal_data principal = base64_data (principal_text principal)

-- a context as its encoding
abbrev pub context_data : List Pair → Data
context_data pairs = base64_data (encoding_of pairs)

-- the kind of a key
abbrev pub kind_name : KeyKind → List ℕ
kind_name Symmetric = codes "symmetric"
kind_name Hmac256 = codes "hmac256"

abbrev pub tag_data : Tag → Data
tag_data tag = object (member (codes "key") (base64_data tag.key) (member (codes "value") (base64_data tag.value) no_members))

abbrev pub tags_data : List Tag → Data
tags_data tags = list_data tag_data tags

abbrev pub texts_data : List (List ℕ) → Data
texts_data texts = list_data base64_data texts

-- what a grant asks the context of a request to equal, and what it asks it to have, where it does
abbrev pub equals_data : Constraint → Option Data
equals_data Free = None
equals_data (Equals pairs) = Some (context_data pairs)
equals_data (Subset pairs) = None

abbrev pub subset_data : Constraint → Option Data
subset_data Free = None
subset_data (Equals pairs) = None
subset_data (Subset pairs) = Some (context_data pairs)
