-- The keyed-hash message authentication code of FIPS 198-1 over SHA-256, on lists of bytes. SHA-256
-- takes blocks of 64 bytes, which is the standard's B. Section numbers are the standard's.
use Rattle.std.specs.Prelude.{ℕ, ◌-◌, List, ◌++◌, length, map, replicate, nat_le, bit_xor, if◌then◌else◌}
use Rattle.sha2.specs.Sha256.{sha256}

-- a text of at most 64 bytes, with zeros after it up to 64 bytes
abbrev pub zero_padded : List ℕ → List ℕ
zero_padded text = text ++ replicate (64 - length text) 0

-- K0, the key as one block: a key of more than 64 bytes is hashed first (4, steps 1 to 3)
unfoldable pub key_block : List ℕ → List ℕ
key_block key = zero_padded (if nat_le (length key) 64 then key else sha256 key)

-- each byte of a block xor the pad's byte
abbrev pub xor_each : List ℕ → ℕ → List ℕ
xor_each block pad = map (λ byte. bit_xor byte pad) block

-- K0 xor ipad, in which the byte 36 is repeated (3 and 4, step 4)
abbrev pub inner_block : List ℕ → List ℕ
inner_block key = xor_each (key_block key) 0x36

-- K0 xor opad, in which the byte 5c is repeated (3 and 4, step 7)
abbrev pub outer_block : List ℕ → List ℕ
outer_block key = xor_each (key_block key) 0x5c

-- HMAC(key, text) = H((K0 xor opad) ‖ H((K0 xor ipad) ‖ text)) (4, steps 5, 6, 8 and 9)
unfoldable pub hmac_sha256 : List ℕ → List ℕ → List ℕ
hmac_sha256 key text = sha256 (outer_block key ++ sha256 (inner_block key ++ text))
