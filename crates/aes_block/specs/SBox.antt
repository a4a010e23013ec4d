-- The substitution table of FIPS 197, section 5.1.1.
use Rattle.std.specs.Prelude.{ℕ, ◌+◌, ◌*◌, ◌%◌, ◌^◌}
use Rattle.std.specs.Int.{bit_at}
use Rattle.std.specs.List.{range_with_len, sum_by}
use Rattle.aes_block.specs.Field.{inverse}

-- the constant byte c of the affine transformation
abbrev pub affine_constant : ℕ
affine_constant = 0x63

-- bit i of the affine transformation of b: the sum modulo 2 of the bits i, i + 4, i + 5, i + 6 and
-- i + 7 of b, counted modulo 8, and of bit i of c
abbrev pub affine_bit : ℕ → ℕ → ℕ
affine_bit b i =
    (bit_at b i + bit_at b ((i + 4) % 8) + bit_at b ((i + 5) % 8) + bit_at b ((i + 6) % 8)
    + bit_at b ((i + 7) % 8) + bit_at affine_constant i) % 2

-- the affine transformation of b over GF(2)
unfoldable pub affine : ℕ → ℕ
affine b = sum_by (λ i. affine_bit b i * 2 ^ i) (range_with_len 0 8)

-- SBOX(x): the inverse of x in GF(2^8), then the affine transformation
unfoldable pub sub_byte : ℕ → ℕ
sub_byte x = affine (inverse x)
