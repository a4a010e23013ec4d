-- The kinds of keys and their texts (AWS KMS API Reference, CreateKey, "KeyUsage" and "KeySpec").
use Rattle.std.specs.Prelude.{ℕ, List, [], ◌∷◌, codes}
use Rattle.hmac_keys.specs.declared.kinds.KeyKind.{KeyKind}
use Rattle.hmac_keys.specs.declared.kinds.KeyKind.TheVariants.{Symmetric, Hmac256}
use Rattle.hmac_keys.specs.declared.kinds.KindField.{KindField}
use Rattle.hmac_keys.specs.declared.kinds.KindField.TheVariants.{KeyUsage, CustomerMasterKeySpec, KeySpec}

abbrev pub all_kinds : List KeyKind
all_kinds = Symmetric ∷ Hmac256 ∷ []

-- the usage of a kind
abbrev pub usage_text : KeyKind → List ℕ
usage_text Symmetric = codes "ENCRYPT_DECRYPT"
usage_text Hmac256 = codes "GENERATE_VERIFY_MAC"

-- its spec
abbrev pub spec_text : KeyKind → List ℕ
spec_text Symmetric = codes "SYMMETRIC_DEFAULT"
spec_text Hmac256 = codes "HMAC_256"

-- its text in a field: both specs are written alike
abbrev pub text_in : KindField → KeyKind → List ℕ
text_in KeyUsage kind = usage_text kind
text_in CustomerMasterKeySpec kind = spec_text kind
text_in KeySpec kind = spec_text kind
