-- The state of FIPS 197, 4 rows and 4 columns of bytes, and the transformations of a round. A state
-- is the list of its 16 bytes, one column after another, as they stand in a block (3.4).
use Rattle.std.specs.Prelude.{ℕ, ◌+◌, ◌*◌, ◌/◌, ◌%◌, List, map, bit_xor, slice_index, slice_index_or, []}
use Rattle.std.specs.List.{range_with_len}
use Rattle.aes_block.specs.Field.{product}
use Rattle.aes_block.specs.SBox.{sub_byte}

-- the byte in row r and column c of a state
abbrev pub byte_at : List ℕ → ℕ → ℕ → ℕ
byte_at s r c = slice_index s (r + 4 * c)

-- the state with the byte f r c in row r and column c
unfoldable pub state_of : (ℕ → ℕ → ℕ) → List ℕ
state_of f = map (λ i. f (i % 4) (i / 4)) (range_with_len 0 16)

-- SubBytes: the substitution table at each byte (5.1.1)
unfoldable pub sub_bytes : List ℕ → List ℕ
sub_bytes s = state_of (λ r c. sub_byte (byte_at s r c))

-- ShiftRows: row r goes round by r places to the left (5.1.2)
unfoldable pub shift_rows : List ℕ → List ℕ
shift_rows s = state_of (λ r c. byte_at s r ((c + r) % 4))

-- the byte in row r and column c after MixColumns: the product of row r of the fixed matrix, which
-- is 02 03 01 01 turned r places to the right, and the column (5.1.3)
unfoldable pub mixed_byte : List ℕ → ℕ → ℕ → ℕ
mixed_byte s r c =
    bit_xor (bit_xor (bit_xor (product 0x02 (byte_at s r c)) (product 0x03 (byte_at s ((r + 1) % 4) c)))
    (byte_at s ((r + 2) % 4) c)) (byte_at s ((r + 3) % 4) c)

-- MixColumns (5.1.3)
unfoldable pub mix_columns : List ℕ → List ℕ
mix_columns s = state_of (mixed_byte s)

-- word i of a list of words
abbrev pub word : List (List ℕ) → ℕ → List ℕ
word w i = slice_index_or w i []

-- AddRoundKey of a round: column c is added to word 4 · round + c of the key schedule w (5.1.4)
unfoldable pub add_round_key : List ℕ → List (List ℕ) → ℕ → List ℕ
add_round_key s w round =
    state_of (λ r c. bit_xor (byte_at s r c) (slice_index (word w (4 * round + c)) r))
