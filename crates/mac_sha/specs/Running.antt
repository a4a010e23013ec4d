-- What a contract sees of a `Mac`: the key that it was made with and the message so far.
use Rattle.std.specs.Prelude.{ℕ, List, ◌++◌}
use Rattle.sha2.specs.Hashers.{Holds256}
use Rattle.mac_sha.specs.Hmac.{inner_block, outer_block}
use Rattle.mac_sha.specs.declared.Mac.{Mac}

-- the mac was made with this key, and the parts given to it, joined, are this message
unfoldable pub IsMac : Mac → List ℕ → List ℕ → Type 0
IsMac mac key message =
    Holds256 mac.inner (inner_block key ++ message) × Holds256 mac.outer (outer_block key)
