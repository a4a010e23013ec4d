-- AES-256, the cipher of FIPS 197, section 5.1, with Nr = 14 rounds.
use Rattle.std.specs.Prelude.{ℕ, zero, suc, ◌+◌, List}
use Rattle.aes_block.specs.State.{sub_bytes, shift_rows, mix_columns, add_round_key}
use Rattle.aes_block.specs.Schedule.{key_expansion}

-- one round on the state s with the schedule w, other than the last
unfoldable pub round : List (List ℕ) → List ℕ → ℕ → List ℕ
round w s n = add_round_key (mix_columns (shift_rows (sub_bytes s))) w n

-- the state after the first n rounds on a block, before which the first round key is added
unfoldable pub after_rounds : List (List ℕ) → List ℕ → ℕ → List ℕ
after_rounds w block zero = add_round_key block w 0
after_rounds w block (suc n) = round w (after_rounds w block n) (n + 1)

-- CIPHER of a block with the schedule w: 13 rounds, and a last one without MixColumns
unfoldable pub cipher_with : List (List ℕ) → List ℕ → List ℕ
cipher_with w block = add_round_key (shift_rows (sub_bytes (after_rounds w block 13))) w 14

-- the 16 bytes of AES-256 of a block of 16 bytes under a key of 32 bytes
unfoldable pub cipher : List ℕ → List ℕ → List ℕ
cipher key block = cipher_with (key_expansion key) block
