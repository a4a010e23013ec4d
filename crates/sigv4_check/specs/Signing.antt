-- The string to sign, the signing key and the signature (IAM User Guide, "Create a signed AWS API request", steps 2 to 4).
use Rattle.std.specs.Prelude.{ℕ, List, [], ◌∷◌, ◌++◌, codes}
use Rattle.std.specs.List.{join_with_byte}
use Rattle.hex.specs.Hex.{encode_lower}
use Rattle.sha2.specs.Sha256.{sha256}
use Rattle.mac_sha.specs.Hmac.{hmac_sha256}

-- DATE/REGION/kms/aws4_request
abbrev pub scope_text : List ℕ → List ℕ → List ℕ
scope_text date region = join_with_byte 47 (date ∷ region ∷ codes "kms" ∷ codes "aws4_request" ∷ [])

-- the lines: the algorithm, the date and time, the scope, and the hash of the canonical request
unfoldable pub string_to_sign : List ℕ → List ℕ → List ℕ → List ℕ → List ℕ
string_to_sign stamp date region canonical =
    join_with_byte 10 (codes "AWS4-HMAC-SHA256" ∷ stamp ∷ scope_text date region ∷ encode_lower (sha256 canonical) ∷ [])

-- the key for one day, region and service
unfoldable pub signing_key_of : List ℕ → List ℕ → List ℕ → List ℕ → List ℕ
signing_key_of secret date region service =
    hmac_sha256 (hmac_sha256 (hmac_sha256 (hmac_sha256 (codes "AWS4" ++ secret) date) region) service) (codes "aws4_request")

-- 64 hexadecimal digits
unfoldable pub signature_of : List ℕ → List ℕ → List ℕ
signature_of key text = encode_lower (hmac_sha256 key text)
