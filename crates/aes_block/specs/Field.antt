-- The finite field GF(2^8) of FIPS 197, section 4. A byte stands for the polynomial whose
-- coefficient of x^i is the byte's bit i. The sum of two is their exclusive or (4.1).
-- Section numbers, here and in the other files, are those of the standard's edition of 2023.
use Rattle.std.specs.Prelude.{ℕ, zero, suc, ◌+◌, ◌*◌, ◌^◌, ◌==◌, bit_xor, find, unwrap_or}
use Rattle.std.specs.Int.{bit_at}
use Rattle.std.specs.List.{range_with_len}

-- m(x) = x^8 + x^4 + x^3 + x + 1, modulo which the field multiplies (4.2)
abbrev pub modulus : ℕ
modulus = 0x11b

-- the product of the polynomial a and the n lowest terms of b: the sum of a · x^i over the bits i
-- of b that are 1 (4.2)
unfoldable pub polynomial_product : ℕ → ℕ → ℕ → ℕ
polynomial_product a b zero = 0
polynomial_product a b (suc i) = bit_xor (polynomial_product a b i) (bit_at b i * (a * 2 ^ i))

-- the remainder modulo m(x) of a polynomial of degree below n + 8, by long division: a term of
-- degree i + 8 is cancelled by m(x) · x^i (4.2)
unfoldable pub remainder : ℕ → ℕ → ℕ
remainder p zero = p
remainder p (suc i) = remainder (bit_xor p (bit_at p (i + 8) * (modulus * 2 ^ i))) i

-- the product a • b of two bytes in GF(2^8) (4.2)
unfoldable pub product : ℕ → ℕ → ℕ
product a b = remainder (polynomial_product a b 8) 7

-- the multiplicative inverse of x in GF(2^8): the byte y with x • y = 1, and 0 where there is
-- none, which is at 0 alone (4.4)
unfoldable pub inverse : ℕ → ℕ
inverse x = unwrap_or (find (λ y. product x y == 1) (range_with_len 0 256)) 0
