-- The MACs of HMAC keys.
use Rattle.std.specs.Prelude.{ℕ, List, ◌++◌, codes}
use Rattle.mac_sha.specs.Hmac.{hmac_sha256}

-- the secret of an HMAC key: HMAC-SHA-256 (FIPS 198-1, section 4) under the root secret, of the label
-- and the key's id
unfoldable pub secret_of : List ℕ → List ℕ → List ℕ
secret_of root id = hmac_sha256 root (codes "mac" ++ id)

-- its MAC of a message: HMAC-SHA-256 (FIPS 198-1, section 4) under that secret
unfoldable pub mac_of : List ℕ → List ℕ → List ℕ → List ℕ
mac_of root id message = hmac_sha256 (secret_of root id) message
