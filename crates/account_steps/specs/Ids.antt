-- The ids of keys and grants.
use Rattle.std.specs.Prelude.{ℕ, List, ◌++◌, codes, take, drop}
use Rattle.std.specs.Int.{to_be_bytes, w16, w32, w64}
use Rattle.mac_sha.specs.Hmac.{hmac_sha256}
use Rattle.account_steps.specs.declared.facts.RealmFacts.{RealmFacts}

-- a number below 2^48 in six bytes, the greatest first
abbrev pub be48 : ℕ → List ℕ
be48 n = drop 2 (to_be_bytes w64 n)

-- a number below 2^32 in four bytes, the greatest first
abbrev pub be32 : ℕ → List ℕ
be32 n = to_be_bytes w32 n

-- ten bytes that the root secret, the boot number and the place determine, and then the place
abbrev pub key_id_at : RealmFacts → ℕ → List ℕ
key_id_at facts place = take 10 (hmac_sha256 facts.root (codes "key" ++ be32 facts.boot ++ be48 place)) ++ be48 place

-- the same of a grant, with twenty-six bytes before the place
abbrev pub grant_id_at : RealmFacts → ℕ → List ℕ
grant_id_at facts place = take 26 (hmac_sha256 facts.root (codes "grant" ++ be32 facts.boot ++ be48 place)) ++ be48 place

-- a number below 2^16 in two bytes, the greatest first
abbrev pub be16 : ℕ → List ℕ
be16 n = to_be_bytes w16 n

-- the seed of a pass's random stream
unfoldable pub draw_seed : RealmFacts → ℕ → List ℕ
draw_seed facts number = hmac_sha256 facts.root (codes "draw" ++ be32 facts.boot ++ be16 number)
