-- What holds of each byte, by computing it at all 256.
use Rattle.std.proofs.Common.{◌≡◌, ℕ, zero, suc, ◌*◌, ◌%◌, ◌^◌, ◌<◌, ◌==◌, nat_lt, Bool, true, not, ◌&&◌, ◌||◌, cond, bit_xor, slice_index, arith, refl, inl, inr}
use Rattle.std.proofs.lemmas.Bool.{and_parts, or_cases, not-true, cases_lt, eqb-true, eqb-false, ltb-true}
use Rattle.aes_block.specs.Field.{polynomial_product, remainder, product, inverse}
use Rattle.aes_block.specs.SBox.{affine, sub_byte}
use Rattle.aes_block.specs.Schedule.{power_of_x}
use Rattle.aes_block.specs.Laws.{InverseIsPinned}
use Rattle.aes_block.specs.declared.sbox.TheConstants.{SBOX}

-- the test holds at each number below n
abbrev all_below : ℕ → (ℕ → Bool) → Bool
all_below zero p = true
all_below (suc n) p = p n && all_below n p

all_below_at : (p : ℕ → Bool) (n k : ℕ) → all_below n p ≡ true → k < n → p k ≡ true
all_below_at p zero k h lt = absurd (omega arith)
all_below_at p (suc n) k h lt =
    let parts = and_parts (p n) (all_below n p) h in
    elim (cases_lt k n) [
      | inl below ↦ all_below_at p n k parts.1 below
      | inr top ↦
          let e : k ≡ n = omega arith in
          rw e parts.0
    ]

-- ---- products with 02 and 03

abbrev pub doubled : ℕ → ℕ
doubled x = cond (nat_lt x 128) (x * 2 % 256) (bit_xor (x * 2 % 256) 27)

doubled_everywhere : all_below 256 (λ x. product 2 x == doubled x) ≡ true
unfolding product polynomial_product remainder
doubled_everywhere = refl

pub product-two : (x : ℕ) → x < 256 → product 2 x ≡ doubled x
product-two x lt = eqb-true (product 2 x) (doubled x) (all_below_at (λ x. product 2 x == doubled x) 256 x doubled_everywhere lt)

abbrev pub tripled : ℕ → ℕ
tripled x = bit_xor (doubled x) x

tripled_everywhere : all_below 256 (λ x. product 3 x == tripled x) ≡ true
unfolding product polynomial_product remainder
tripled_everywhere = refl

pub product-three : (x : ℕ) → x < 256 → product 3 x ≡ tripled x
product-three x lt = eqb-true (product 3 x) (tripled x) (all_below_at (λ x. product 3 x == tripled x) 256 x tripled_everywhere lt)

-- ---- the inverse

-- i is a byte whose product with x is 1, and no other byte is
abbrev is_only : ℕ → ℕ → Bool
is_only x i = nat_lt i 256 && (product x i == 1) && all_below 256 (λ y. not (product x y == 1) || (y == i))

pinned_everywhere : all_below 256 (λ x. (x == 0) || is_only x (inverse x)) ≡ true
unfolding product polynomial_product remainder inverse
pinned_everywhere = refl

only_pins : (x : ℕ) → is_only x (inverse x) ≡ true → InverseIsPinned x
only_pins x h =
    let i : ℕ = inverse x in
    let outer = and_parts (nat_lt i 256 && (product x i == 1)) (all_below 256 (λ y. not (product x y == 1) || (y == i))) h in
    let inner = and_parts (nat_lt i 256) (product x i == 1) outer.0 in (
      ltb-true i 256 inner.0,
      eqb-true (product x i) 1 inner.1,
      λ y lt e. elim (or_cases (not (product x y == 1)) (y == i) (all_below_at (λ y. not (product x y == 1) || (y == i)) 256 y outer.1 lt)) [
        | inl differs ↦ absurd (eqb-false (product x y) 1 (not-true (product x y == 1) differs) e)
        | inr same ↦ eqb-true y i same
      ],
    )

pub inverse-pinned : (x : ℕ) → 0 < x → x < 256 → InverseIsPinned x
inverse-pinned x pos lt = elim (or_cases (x == 0) (is_only x (inverse x)) (all_below_at (λ x. (x == 0) || is_only x (inverse x)) 256 x pinned_everywhere lt)) [
  | inl none ↦
      let e : x ≡ 0 = eqb-true x 0 none in
      absurd (omega arith)
  | inr only ↦ only_pins x only
]

pub inverse-zero : inverse 0 ≡ 0
unfolding product polynomial_product remainder inverse
inverse-zero = refl

-- ---- the table

table_everywhere : all_below 256 (λ x. slice_index SBOX x == sub_byte x) ≡ true
unfolding product polynomial_product remainder inverse affine sub_byte
table_everywhere = refl

pub SBOX-sub_byte : (x : ℕ) → x < 256 → slice_index SBOX x ≡ sub_byte x
SBOX-sub_byte x lt = eqb-true (slice_index SBOX x) (sub_byte x) (all_below_at (λ x. slice_index SBOX x == sub_byte x) 256 x table_everywhere lt)

-- ---- powers of x

powers_everywhere : all_below 8 (λ j. 1 * 2 ^ j % 256 == power_of_x j) ≡ true
unfolding product polynomial_product remainder power_of_x
powers_everywhere = refl

-- up to x^7 a power of x is a power of 2
pub power_of_x-small : (j : ℕ) → j < 8 → 1 * 2 ^ j % 256 ≡ power_of_x j
power_of_x-small j lt =
    eqb-true (1 * 2 ^ j % 256) (power_of_x j) (all_below_at (λ j. 1 * 2 ^ j % 256 == power_of_x j) 8 j powers_everywhere lt)
