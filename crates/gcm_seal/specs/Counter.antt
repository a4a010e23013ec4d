-- The mode of operation GCTR of SP 800-38D, section 6.5, over AES-256.
use Rattle.std.specs.Prelude.{ℕ, zero, suc, ◌+◌, ◌%◌, ◌^◌, List, ◌++◌, length, take, drop, map, bit_xor, slice_index}
use Rattle.std.specs.Int.{w32, from_be_bytes, to_be_bytes}
use Rattle.std.specs.List.{range_with_len, flat_map}
use Rattle.aes_block.specs.Cipher.{cipher}
use Rattle.gcm_seal.specs.Blocks.{block_count, block_at}

-- inc_32 of a block: its last 4 bytes, as a number, raised by one modulo 2^32, after its other 12
-- bytes (6.2)
unfoldable pub inc32 : List ℕ → List ℕ
inc32 block = take 12 block ++ to_be_bytes w32 ((from_be_bytes w32 (drop 12 block) + 1) % 2 ^ 32)

-- X ⊕ Y, of two texts of one length
unfoldable pub xor_bytes : List ℕ → List ℕ → List ℕ
xor_bytes x y = map (λ i. bit_xor (slice_index x i) (slice_index y i)) (range_with_len 0 (length x))

-- CB_{i+1}: CB_1 is the initial counter block ICB, and each further one is inc_32 of the one before it
-- (6.5, steps 4 and 5)
unfoldable pub counter_block : List ℕ → ℕ → List ℕ
counter_block initial zero = initial
counter_block initial (suc i) = inc32 (counter_block initial i)

-- Y_{i+1} = X_{i+1} ⊕ MSB_len(X_{i+1})(CIPH_K(CB_{i+1})), where every block but the last is as long as
-- the cipher's (6.5, steps 6 and 7)
unfoldable pub output_block : List ℕ → List ℕ → List ℕ → ℕ → List ℕ
output_block key initial text i =
    xor_bytes (block_at text i) (take (length (block_at text i)) (cipher key (counter_block initial i)))

-- GCTR_K(ICB, X) = Y_1 ‖ Y_2 ‖ .. ‖ Y_n*, which is empty where X is (6.5, steps 1 and 8)
unfoldable pub gctr : List ℕ → List ℕ → List ℕ → List ℕ
gctr key initial text = flat_map (output_block key initial text) (range_with_len 0 (block_count text))
