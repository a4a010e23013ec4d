-- AES-256-GCM of SP 800-38D with an IV of 96 bits, which is 12 bytes, and a tag of 128, which is 16.
use Rattle.std.specs.Prelude.{ℕ, ◌*◌, List, [], ◌∷◌, ◌++◌, length, take, replicate, Option, Some, None, if◌then◌else◌}
use Rattle.std.specs.Int.{w64, to_be_bytes}
use Rattle.std.specs.Str.{bytes_eq}
use Rattle.aes_block.specs.Cipher.{cipher}
use Rattle.ghash_field.specs.Ghash.{ghash}
use Rattle.gcm_seal.specs.Blocks.{blocks_of, padded}
use Rattle.gcm_seal.specs.Counter.{inc32, gctr}

-- H = CIPH_K(0^128), the hash subkey (7.1, step 1)
unfoldable pub hash_subkey : List ℕ → List ℕ
hash_subkey key = cipher key (replicate 16 0)

-- J_0 = IV ‖ 0^31 ‖ 1, the pre-counter block (7.1, step 2)
unfoldable pub pre_counter_block : List ℕ → List ℕ
pre_counter_block iv = iv ++ 0 ∷ 0 ∷ 0 ∷ 1 ∷ []

-- C = GCTR_K(inc_32(J_0), P), the ciphertext of a plaintext (7.1, step 3)
unfoldable pub sealed_text : List ℕ → List ℕ → List ℕ → List ℕ
sealed_text key iv plaintext = gctr key (inc32 (pre_counter_block iv)) plaintext

-- [len(A)]_64 ‖ [len(C)]_64, the two lengths in bits (7.1, step 5)
unfoldable pub lengths_block : List ℕ → List ℕ → List ℕ
lengths_block aad ciphertext = to_be_bytes w64 (8 * length aad) ++ to_be_bytes w64 (8 * length ciphertext)

-- S = GHASH_H(A ‖ 0^v ‖ C ‖ 0^u ‖ [len(A)]_64 ‖ [len(C)]_64) (7.1, steps 4 and 5)
unfoldable pub hash_of : List ℕ → List ℕ → List ℕ → List ℕ
hash_of key aad ciphertext =
    ghash (hash_subkey key) (blocks_of (padded aad ++ padded ciphertext ++ lengths_block aad ciphertext))

-- T = MSB_128(GCTR_K(J_0, S)), the tag of additional data and a ciphertext (7.1, step 6)
unfoldable pub tag_of : List ℕ → List ℕ → List ℕ → List ℕ → List ℕ
tag_of key iv aad ciphertext = take 16 (gctr key (pre_counter_block iv) (hash_of key aad ciphertext))

-- P = GCTR_K(inc_32(J_0), C), the plaintext of a ciphertext (7.2, step 4)
unfoldable pub opened_text : List ℕ → List ℕ → List ℕ → List ℕ
opened_text key iv ciphertext = gctr key (inc32 (pre_counter_block iv)) ciphertext

-- P where T is the tag T' of the ciphertext, and else FAIL (7.2, step 8)
unfoldable pub open_of : List ℕ → List ℕ → List ℕ → List ℕ → List ℕ → Option (List ℕ)
open_of key iv aad ciphertext tag =
    if bytes_eq tag (tag_of key iv aad ciphertext) then Some (opened_text key iv ciphertext) else None
