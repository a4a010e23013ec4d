-- GHASH, the hash of Galois/Counter Mode (SP 800-38D). A block is a string of 128 bits, here 16 bytes.
-- As a number of 128 bits its leftmost bit, bit 0 of the standard, is the highest: the rightmost bit
-- is the number modulo 2, a shift to the right by one is half the number, and ⊕ is `bit_xor`.
use Rattle.std.specs.Prelude.{ℕ, zero, suc, ◌-◌, ◌*◌, ◌/◌, ◌%◌, ◌^◌, ◌==◌, List, fold, bit_xor, if◌then◌else◌}
use Rattle.std.specs.Int.{w128, bit_at, from_be_bytes, to_be_bytes}

-- the block R = 11100001 ‖ 0^120 (6.3)
abbrev pub reduction : ℕ
reduction = 0xe1 * 2 ^ 120

-- V_{i+1} from V_i: V_i >> 1, and ⊕ R where the bit that falls out is 1 (6.3, step 3)
abbrev pub next_shifted : ℕ → ℕ
next_shifted v = if v % 2 == 0 then v / 2 else bit_xor (v / 2) reduction

-- V_i, from V_0 = Y (6.3, steps 2 and 3)
unfoldable pub shifted : ℕ → ℕ → ℕ
shifted y zero = y
shifted y (suc i) = next_shifted (shifted y i)

-- bit x_i of a block, counted from the left (6.3, step 1)
abbrev pub bit_from_left : ℕ → ℕ → ℕ
bit_from_left x i = bit_at x (127 - i)

-- Z_i, from Z_0 = 0: V_i is added where x_i is 1 (6.3, steps 2 and 3)
unfoldable pub partial_product : ℕ → ℕ → ℕ → ℕ
partial_product x y zero = 0
partial_product x y (suc i) =
    if bit_from_left x i == 0 then partial_product x y i
    else bit_xor (partial_product x y i) (shifted y i)

-- the product X • Y of two blocks, which is Z_128 (6.3, step 4)
unfoldable pub product : ℕ → ℕ → ℕ
product x y = partial_product x y 128

-- a block of 16 bytes as a number
unfoldable pub number_of : List ℕ → ℕ
number_of block = from_be_bytes w128 block

-- a number of 128 bits as a block of 16 bytes
unfoldable pub block_of : ℕ → List ℕ
block_of number = to_be_bytes w128 number

-- Y_m after the blocks X_1 .. X_m: Y_0 = 0 and Y_i = (Y_{i-1} ⊕ X_i) • H (6.4)
unfoldable pub hash_number : List ℕ → List (List ℕ) → ℕ
hash_number key blocks =
    fold (λ sum block. product (bit_xor sum (number_of block)) (number_of key)) 0 blocks

-- GHASH of the blocks under the hash subkey H, as a block of 16 bytes (6.4)
unfoldable pub ghash : List ℕ → List (List ℕ) → List ℕ
ghash key blocks = block_of (hash_number key blocks)
