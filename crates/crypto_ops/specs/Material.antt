-- The material of a version of a key, and the data keys that texts are sealed under.
use Rattle.std.specs.Prelude.{ℕ, List, ◌++◌, codes}
use Rattle.std.specs.Int.{w32, to_be_bytes}
use Rattle.blob_format.specs.Blob.{Form, form_one, form_two}
use Rattle.mac_sha.specs.Hmac.{hmac_sha256}

-- HMAC-SHA-256 (FIPS 198-1, section 4) under the root secret, of the label, the key's id and the
-- version in 4 bytes, high byte first
unfoldable pub material_of : List ℕ → List ℕ → ℕ → List ℕ
material_of root id version = hmac_sha256 root (codes "material" ++ id ++ to_be_bytes w32 version)

-- the key of one blob: HMAC-SHA-256 under the material, of the label and the initialization vector
unfoldable pub blob_key : List ℕ → List ℕ → List ℕ
blob_key material iv = hmac_sha256 material (codes "blob2" ++ iv)

-- the data key of a blob: in form 1 the material itself, in form 2 a key of the blob's own
abbrev pub data_key : Form → List ℕ → List ℕ → List ℕ
data_key form_one material iv = material
data_key (form_two commitment) material iv = blob_key material iv

-- the commitment to a data key: HMAC-SHA-256 under that key, of the label
unfoldable pub commitment_of : List ℕ → List ℕ
commitment_of key = hmac_sha256 key (codes "commit2")
