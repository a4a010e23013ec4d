-- What callers use of an HMAC: its length.
use Rattle.std.proofs.Common.{◌≡◌, ℕ, List, length}
use Rattle.sha2.proofs.Facts256.{length-sha256}
use Rattle.mac_sha.specs.Hmac.{hmac_sha256}

-- an HMAC has 32 bytes
pub hmac_length : (key text : List ℕ) → length (hmac_sha256 key text) ≡ 32
unfolding hmac_sha256
hmac_length key text = length-sha256 _
