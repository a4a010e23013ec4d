-- The product of blocks: it is linear, it follows shifts, and so it is made of the products of parts.
use Rattle.std.proofs.Common.{◌≡◌, ◌≢◌, ℕ, zero, suc, ◌+◌, ◌-◌, ◌*◌, ◌/◌, ◌%◌, ◌^◌, ◌<◌, ◌≤◌, ◌==◌, List, [], ◌∷◌, slice_index, map, cond, bit_and, bit_xor, refl, sym, ap, ◌∙◌, inl, inr, arith}
use Rattle.std.specs.Int.{bit_at}
use Rattle.std.specs.Int.Bits.{xor_assoc, xor_self, xor_zero_l, xor_zero_r}
use Rattle.std.specs.List.{range_with_len}
use Rattle.std.proofs.lemmas.Bool.{cases_eq, cond-true, cond-false, eq-eqb, ne_eqb}
use Rattle.std.proofs.lemmas.Nat.{pow_pos, pow-add, xor_comm, xor_shr, xor_block, and_mask, mod-pow-add, mod_below, shr_split, shl_below}
use Rattle.std.proofs.Math.Nat.{le-mul_of_pos_right, pow-suc, pow-le-pow_right}
use Rattle.std.proofs.lemmas.List.{get_or-map}
use Rattle.std.proofs.lemmas.List.FromFn.{get_or-map-range_with_len}
use Rattle.std.proofs.lemmas.Nat.Bits.{bit_at_xor, bit_at-suc, bit_at-pow_same, bit_at-pow_other, bit_at_above}
use Rattle.ghash_field.specs.Ghash.{reduction, next_shifted, shifted, bit_from_left, partial_product, product}
use Rattle.ghash_field.specs.Products.{HasProducts}
use Rattle.ghash_field.specs.declared.TheConstants.{REMAINDERS}

-- ---- sums

-- two sums, added
xor_four : (a b c d : ℕ) → bit_xor (bit_xor a b) (bit_xor c d) ≡ bit_xor (bit_xor a c) (bit_xor b d)
xor_four a b c d =
    xor_assoc a b (bit_xor c d)
    ∙ ap (bit_xor a) (sym (xor_assoc b c d) ∙ ap (λ (n : ℕ). bit_xor n d) (xor_comm b c) ∙ xor_assoc c b d)
    ∙ sym (xor_assoc a c (bit_xor b d))

-- a term that both have falls out
xor_both : (a b c : ℕ) → bit_xor (bit_xor a c) (bit_xor b c) ≡ bit_xor a b
xor_both a b c = xor_four a c b c ∙ ap (bit_xor (bit_xor a b)) (xor_self c) ∙ xor_zero_r (bit_xor a b)

xor_right : (a b c : ℕ) → bit_xor a (bit_xor b c) ≡ bit_xor (bit_xor a b) c
xor_right a b c = sym (xor_assoc a b c)

xor_left : (a b c : ℕ) → bit_xor (bit_xor a c) b ≡ bit_xor (bit_xor a b) c
xor_left a b c = xor_assoc a c b ∙ ap (bit_xor a) (xor_comm c b) ∙ sym (xor_assoc a b c)

-- ---- a step of either kind, where a bit decides

-- v, and r added where the bit is not 0
abbrev with_bit : ℕ → ℕ → ℕ → ℕ
with_bit bit v r = cond (bit == 0) v (bit_xor v r)

with_bit-zero : (bit v r : ℕ) → bit ≡ 0 → with_bit bit v r ≡ v
with_bit-zero bit v r e = cond-true (bit == 0) _ _ (eq-eqb bit 0 e)

with_bit-one : (bit v r : ℕ) → bit ≢ 0 → with_bit bit v r ≡ bit_xor v r
with_bit-one bit v r ne = cond-false (bit == 0) _ _ (ne_eqb bit 0 ne)

-- the sum of two steps
with_bit-xor : (p q s v w r : ℕ) → p < 2 → q < 2 → s ≡ (p + q) % 2
    → with_bit s (bit_xor v w) r ≡ bit_xor (with_bit p v r) (with_bit q w r)
with_bit-xor p q s v w r lp lq e = elim (cases_eq p 0) [
  | inl p0 ↦ elim (cases_eq q 0) [
    | inl q0 ↦ with_bit-zero s _ r (omega arith) ∙ sym (rw (with_bit-zero p v r p0, with_bit-zero q w r q0) refl)
    | inr q1 ↦ with_bit-one s _ r (λ z. omega arith) ∙ sym (rw (with_bit-zero p v r p0, with_bit-one q w r q1) (xor_right v w r))
  ]
  | inr p1 ↦ elim (cases_eq q 0) [
    | inl q0 ↦ with_bit-one s _ r (λ z. omega arith) ∙ sym (rw (with_bit-one p v r p1, with_bit-zero q w r q0) (xor_left v w r))
    | inr q1 ↦ with_bit-zero s _ r (omega arith) ∙ sym (rw (with_bit-one p v r p1, with_bit-one q w r q1) (xor_both v w r))
  ]
]

-- ---- the shift

next_shifted-xor : (a b : ℕ) → next_shifted (bit_xor a b) ≡ bit_xor (next_shifted a) (next_shifted b)
next_shifted-xor a b =
    ap (λ (v : ℕ). with_bit (bit_xor a b % 2) v reduction) (xor_shr a b 1)
    ∙ with_bit-xor (a % 2) (b % 2) (bit_xor a b % 2) (a / 2) (b / 2) reduction (omega arith) (omega arith) (omega (arith, bit_at_xor a b 0))

pub shifted-xor : (n a b : ℕ) → shifted (bit_xor a b) n ≡ bit_xor (shifted a n) (shifted b n)
unfolding shifted
shifted-xor zero a b = refl
shifted-xor (suc n) a b = ap next_shifted (shifted-xor n a b) ∙ next_shifted-xor (shifted a n) (shifted b n)

two_more : (a n : ℕ) → a * 2 ^ suc n ≡ a * 2 * 2 ^ n
two_more a n = ap (λ (p : ℕ). a * p) (pow-suc 2 n) ∙ omega arith

-- a block with n zeros at its end loses them
shifted-zeros : (n a : ℕ) → shifted (a * 2 ^ n) n ≡ a
unfolding shifted
shifted-zeros zero a = omega arith
shifted-zeros (suc n) a =
    let two : a * 2 ^ suc n ≡ a * 2 * 2 ^ n = two_more a n in
    ap (λ (b : ℕ). next_shifted (shifted b n)) two
    ∙ ap next_shifted (shifted-zeros n (a * 2))
    ∙ with_bit-zero (a * 2 % 2) (a * 2 / 2) reduction (omega arith)
    ∙ omega arith

-- ---- parts of a number

-- what stands in different places is added without carries
joined : (k a b : ℕ) → b < 2 ^ k → bit_xor (a * 2 ^ k) b ≡ a * 2 ^ k + b
joined k a b lt =
    let left : a * 2 ^ k ≡ a * 2 ^ k + 0 = omega arith in
    let right : b ≡ 0 * 2 ^ k + b = omega arith in
    ap (λ (n : ℕ). bit_xor n b) left
    ∙ ap (bit_xor (a * 2 ^ k + 0)) right
    ∙ xor_block k a 0 0 b (pow_pos k) lt
    ∙ ap (λ (n : ℕ). n * 2 ^ k + bit_xor 0 b) (xor_zero_r a)
    ∙ ap (λ (n : ℕ). a * 2 ^ k + n) (xor_zero_l b)

moved-xor : (k a b : ℕ) → bit_xor (a * 2 ^ k) (b * 2 ^ k) ≡ bit_xor a b * 2 ^ k
moved-xor k a b =
    let left : a * 2 ^ k ≡ a * 2 ^ k + 0 = omega arith in
    let right : b * 2 ^ k ≡ b * 2 ^ k + 0 = omega arith in
    ap (λ (n : ℕ). bit_xor n (b * 2 ^ k)) left
    ∙ ap (bit_xor (a * 2 ^ k + 0)) right
    ∙ xor_block k a b 0 0 (pow_pos k) (pow_pos k)
    ∙ omega arith

split : (k n : ℕ) → n ≡ bit_xor (n / 2 ^ k * 2 ^ k) (n % 2 ^ k)
split k n = sym (joined k (n / 2 ^ k) (n % 2 ^ k) (mod_below n (2 ^ k) (pow_pos k)) ∙ shr_split n k)

-- n shifts: the last n bits fall out, and what they make is added
pub shifted_by : (n a : ℕ) → shifted a n ≡ bit_xor (a / 2 ^ n) (shifted (a % 2 ^ n) n)
shifted_by n a =
    ap (λ (b : ℕ). shifted b n) (split n a)
    ∙ shifted-xor n (a / 2 ^ n * 2 ^ n) (a % 2 ^ n)
    ∙ ap (λ (b : ℕ). bit_xor b (shifted (a % 2 ^ n) n)) (shifted-zeros n (a / 2 ^ n))

-- ---- the table of eight shifts

remainders : map (λ r. r * 2 ^ 112 % 2 ^ 128) REMAINDERS ≡ map (λ b. shifted b 8) (range_with_len 0 256)
unfolding shifted
remainders = refl

remainder_is : (b : ℕ) → b < 256 → slice_index REMAINDERS b * 2 ^ 112 % 2 ^ 128 ≡ shifted b 8
remainder_is b lt =
    sym (get_or-map (λ r. r * 2 ^ 112 % 2 ^ 128) REMAINDERS b 0 0 lt)
    ∙ ap (λ (t : List ℕ). slice_index t b) remainders
    ∙ get_or-map-range_with_len (λ b. shifted b 8) 0 256 b b 0 lt (omega arith)

pub shifted_from_table : (block remainder : ℕ) → remainder ≡ slice_index REMAINDERS (bit_and block 255)
    → bit_xor (block / 2 ^ 8) (remainder * 2 ^ 112 % 2 ^ 128) ≡ shifted block 8
shifted_from_table block remainder e =
    let byte : ℕ = block % 2 ^ 8 in
    let taken : bit_and block 255 ≡ byte = and_mask block 8 in
    ap (λ (r : ℕ). bit_xor (block / 2 ^ 8) (r * 2 ^ 112 % 2 ^ 128)) (e ∙ ap (slice_index REMAINDERS) taken)
    ∙ ap (bit_xor (block / 2 ^ 8)) (remainder_is byte (omega arith))
    ∙ sym (shifted_by 8 block)

-- ---- the product is linear

partial_product-suc : (x y i : ℕ) → partial_product x y (suc i) ≡ with_bit (bit_from_left x i) (partial_product x y i) (shifted y i)
unfolding partial_product
partial_product-suc x y i = refl

partial_product-none : (x y : ℕ) → partial_product x y 0 ≡ 0
unfolding partial_product
partial_product-none x y = refl

partial_product-xor : (a b y n : ℕ) → partial_product (bit_xor a b) y n ≡ bit_xor (partial_product a y n) (partial_product b y n)
partial_product-xor a b y zero = rw (partial_product-none (bit_xor a b) y, partial_product-none a y, partial_product-none b y) refl
partial_product-xor a b y (suc n) =
    partial_product-suc (bit_xor a b) y n
    ∙ ap (λ (v : ℕ). with_bit (bit_from_left (bit_xor a b) n) v (shifted y n)) (partial_product-xor a b y n)
    ∙ with_bit-xor (bit_from_left a n) (bit_from_left b n) (bit_from_left (bit_xor a b) n) (partial_product a y n) (partial_product b y n) (shifted y n)
    (omega arith) (omega arith) (bit_at_xor a b (127 - n))
    ∙ sym (rw (partial_product-suc a y n, partial_product-suc b y n) refl)

pub product-xor : (a b y : ℕ) → product (bit_xor a b) y ≡ bit_xor (product a y) (product b y)
unfolding product
product-xor a b y = partial_product-xor a b y 128

pub product-zero : (y : ℕ) → product 0 y ≡ 0
product-zero y = product-xor 0 0 y ∙ xor_self (product 0 y)

-- ---- the product of a shifted block

next_shifted-with_bit : (bit v r : ℕ) → next_shifted (with_bit bit v r) ≡ with_bit bit (next_shifted v) (next_shifted r)
next_shifted-with_bit bit v r = elim (cases_eq bit 0) [
  | inl e ↦ ap next_shifted (with_bit-zero bit v r e) ∙ sym (with_bit-zero bit (next_shifted v) (next_shifted r) e)
  | inr ne ↦ ap next_shifted (with_bit-one bit v r ne) ∙ next_shifted-xor v r ∙ sym (with_bit-one bit (next_shifted v) (next_shifted r) ne)
]

shifted-suc : (y n : ℕ) → shifted y (suc n) ≡ next_shifted (shifted y n)
unfolding shifted
shifted-suc y n = refl

partial_product-shifted : (y c n : ℕ) → c < 2 ^ 127 → n ≤ 127 → partial_product c y (suc n) ≡ next_shifted (partial_product (c * 2) y n)
partial_product-shifted y c zero small le =
    partial_product-suc c y 0
    ∙ with_bit-zero (bit_from_left c 0) (partial_product c y 0) (shifted y 0) (bit_at_above c 127 127 small (omega arith))
    ∙ partial_product-none c y
    ∙ sym (ap next_shifted (partial_product-none (c * 2) y))
partial_product-shifted y c (suc n) small le =
    let place : 127 - n ≡ suc (127 - suc n) = omega arith in
    let half : c * 2 / 2 ≡ c = omega arith in
    let same : bit_from_left (c * 2) n ≡ bit_from_left c (suc n) =
    ap (bit_at (c * 2)) place ∙ bit_at-suc (c * 2) (127 - suc n) ∙ ap (λ (b : ℕ). bit_at b (127 - suc n)) half in
    partial_product-suc c y (suc n)
    ∙ ap (λ (v : ℕ). with_bit (bit_from_left c (suc n)) v (shifted y (suc n))) (partial_product-shifted y c n small (omega arith))
    ∙ ap (with_bit (bit_from_left c (suc n)) (next_shifted (partial_product (c * 2) y n))) (shifted-suc y n)
    ∙ ap (λ (bit : ℕ). with_bit bit (next_shifted (partial_product (c * 2) y n)) (next_shifted (shifted y n))) (sym same)
    ∙ sym (next_shifted-with_bit (bit_from_left (c * 2) n) (partial_product (c * 2) y n) (shifted y n))
    ∙ ap next_shifted (sym (partial_product-suc (c * 2) y n))

pub product-shifted : (c y : ℕ) → c < 2 ^ 127 → product c y ≡ next_shifted (product (c * 2) y)
unfolding product
product-shifted c y small =
    partial_product-shifted y c 127 small (omega arith)
    ∙ ap next_shifted (sym (partial_product-suc (c * 2) y 127 ∙ with_bit-zero (bit_from_left (c * 2) 127) (partial_product (c * 2) y 127) (shifted y 127) (omega arith)))

pub product-moved : (n c y : ℕ) → c * 2 ^ n < 2 ^ 128 → product c y ≡ shifted (product (c * 2 ^ n) y) n
unfolding shifted
product-moved zero c y small = ap (λ (x : ℕ). product x y) (let same : c ≡ c * 2 ^ 0 = omega arith in same)
product-moved (suc n) c y small =
    let two : c * 2 ^ suc n ≡ c * 2 * 2 ^ n = two_more c n in
    let least : c * 2 ≤ c * 2 * 2 ^ n = le-mul_of_pos_right (c * 2) (pow_pos n) in
    product-shifted c y (omega arith)
    ∙ ap next_shifted (product-moved n (c * 2) y (omega arith))
    ∙ ap (λ (x : ℕ). next_shifted (shifted (product x y) n)) (sym two)

-- ---- the one

one-partial : (y n : ℕ) → n ≤ 127 → partial_product (2 ^ 127) y (suc n) ≡ y
unfolding shifted
one-partial y zero le =
    partial_product-suc (2 ^ 127) y 0
    ∙ with_bit-one (bit_from_left (2 ^ 127) 0) (partial_product (2 ^ 127) y 0) y (λ z. let one = bit_at-pow_same 127 in omega arith)
    ∙ ap (λ (n : ℕ). bit_xor n y) (partial_product-none (2 ^ 127) y)
    ∙ xor_zero_l y
one-partial y (suc n) le =
    partial_product-suc (2 ^ 127) y (suc n)
    ∙ with_bit-zero (bit_from_left (2 ^ 127) (suc n)) (partial_product (2 ^ 127) y (suc n)) (shifted y (suc n)) (bit_at-pow_other 127 (127 - suc n) (λ e. omega arith))
    ∙ one-partial y n (omega arith)

-- the block 1 ‖ 0^127 is the one
pub product-one : (y : ℕ) → product (2 ^ 127) y ≡ y
unfolding product
product-one y = one-partial y 127 (omega arith)

-- ---- a product by parts, of any widths

-- a block whose next w bits from the right are taken in: k bits are taken in before them, m are left
pub product_by_parts : (k w m x y : ℕ) → k + w + m ≡ 128
    → bit_xor (shifted (product (x % 2 ^ k * 2 ^ (w + m)) y) w) (product (x / 2 ^ k % 2 ^ w * 2 ^ (k + m)) y) ≡ product (x % 2 ^ (w + k) * 2 ^ m) y
product_by_parts k w m x y all =
    let rest : ℕ = x % 2 ^ k in
    let part : ℕ = x / 2 ^ k % 2 ^ w in
    let small : rest * 2 ^ m < 2 ^ (k + m) = shl_below rest k m (mod_below x (2 ^ k) (pow_pos k)) in
    let place : rest * 2 ^ m * 2 ^ w ≡ rest * 2 ^ (w + m) = sym (ap (λ (p : ℕ). rest * p) (pow-add 2 w m) ∙ omega arith) in
    let small' : rest * 2 ^ (w + m) < 2 ^ (k + (w + m)) = shl_below rest k (w + m) (mod_below x (2 ^ k) (pow_pos k)) in
    let width : k + (w + m) ≡ 128 = omega arith in
    let within : rest * 2 ^ m * 2 ^ w < 2 ^ 128 = rw place (rw width at small') in
    let both : x % 2 ^ (w + k) * 2 ^ m ≡ bit_xor (rest * 2 ^ m) (part * 2 ^ (k + m)) =
    ap (λ (n : ℕ). n * 2 ^ m) (mod-pow-add x w k)
    ∙ (let e : (part * 2 ^ k + rest) * 2 ^ m ≡ part * (2 ^ k * 2 ^ m) + rest * 2 ^ m = omega arith in e)
    ∙ ap (λ (p : ℕ). part * p + rest * 2 ^ m) (sym (pow-add 2 k m))
    ∙ sym (joined (k + m) part (rest * 2 ^ m) small)
    ∙ xor_comm (part * 2 ^ (k + m)) (rest * 2 ^ m) in
    sym (ap (λ (n : ℕ). product n y) both
    ∙ product-xor (rest * 2 ^ m) (part * 2 ^ (k + m)) y
    ∙ ap (λ (n : ℕ). bit_xor n (product (part * 2 ^ (k + m)) y)) (product-moved w (rest * 2 ^ m) y within ∙ ap (λ (n : ℕ). shifted (product n y) w) place))

-- a part in two, the second of k bits, with n zeros after them
pub product_in_two : (k n b y : ℕ) → bit_xor (product (b / 2 ^ k * 2 ^ (k + n)) y) (product (b % 2 ^ k * 2 ^ n) y) ≡ product (b * 2 ^ n) y
product_in_two k n b y =
    let place : b / 2 ^ k * 2 ^ (k + n) ≡ b / 2 ^ k * 2 ^ k * 2 ^ n = ap (λ (p : ℕ). b / 2 ^ k * p) (pow-add 2 k n) ∙ omega arith in
    sym (product-xor (b / 2 ^ k * 2 ^ (k + n)) (b % 2 ^ k * 2 ^ n) y)
    ∙ ap (λ (m : ℕ). product (bit_xor m (b % 2 ^ k * 2 ^ n)) y) place
    ∙ ap (λ (m : ℕ). product m y) (moved-xor n (b / 2 ^ k * 2 ^ k) (b % 2 ^ k) ∙ ap (λ (m : ℕ). m * 2 ^ n) (sym (split k b)))

-- ---- the loop over the bytes of a block

pub product_none : (x y : ℕ) → 0 ≡ product (x % 2 ^ (8 * 0) * 2 ^ (128 - 8 * 0)) y
product_none x y = sym (ap (λ (n : ℕ). product n y) (let none : x % 2 ^ (8 * 0) * 2 ^ (128 - 8 * 0) ≡ 0 = omega arith in none) ∙ product-zero y)

-- one byte more
pub product_more : (first second : List ℕ) (key x sum i : ℕ) → i < 16 → HasProducts first key 124 → HasProducts second key 120
    → sum ≡ product (x % 2 ^ (8 * i) * 2 ^ (128 - 8 * i)) key
    → bit_xor (bit_xor (shifted sum 8) (slice_index first (bit_and (x / 2 ^ (8 * i)) 255 / 16))) (slice_index second (bit_and (bit_and (x / 2 ^ (8 * i)) 255) 15))
    ≡ product (x % 2 ^ (8 * (i + 1)) * 2 ^ (128 - 8 * (i + 1))) key
product_more first second key x sum i lt is_first is_second so_far =
    let k : ℕ = 8 * i in
    let m : ℕ = 120 - k in
    let byte : ℕ = x / 2 ^ k % 2 ^ 8 in
    let taken : bit_and (x / 2 ^ k) 255 ≡ byte = and_mask (x / 2 ^ k) 8 in
    let low : bit_and byte 15 ≡ byte % 2 ^ 4 = and_mask byte 4 in
    let left : 128 - 8 * i ≡ 8 + m = omega arith in
    let left' : 128 - 8 * (i + 1) ≡ m = omega arith in
    let done : 8 * (i + 1) ≡ 8 + k = omega arith in
    let whole : k + m ≡ 120 = omega arith in
    ap (λ (s : ℕ). bit_xor (bit_xor (shifted s 8) (slice_index first (bit_and (x / 2 ^ k) 255 / 16))) (slice_index second (bit_and (bit_and (x / 2 ^ k) 255) 15))) (so_far ∙ ap (λ (n : ℕ). product (x % 2 ^ k * 2 ^ n) key) left)
    ∙ ap (λ (b : ℕ). bit_xor (bit_xor (shifted (product (x % 2 ^ k * 2 ^ (8 + m)) key) 8) (slice_index first (b / 16))) (slice_index second (bit_and b 15))) taken
    ∙ xor_assoc (shifted (product (x % 2 ^ k * 2 ^ (8 + m)) key) 8) (slice_index first (byte / 16)) (slice_index second (bit_and byte 15))
    ∙ ap (bit_xor (shifted (product (x % 2 ^ k * 2 ^ (8 + m)) key) 8))
    (ap (λ (j : ℕ). bit_xor (slice_index first (byte / 16)) (slice_index second j)) low
    ∙ ap (λ (p : ℕ). bit_xor p (slice_index second (byte % 2 ^ 4))) (is_first (byte / 16) (omega arith))
    ∙ ap (bit_xor (product (byte / 16 * 2 ^ 124) key)) (is_second (byte % 2 ^ 4) (omega arith))
    ∙ product_in_two 4 120 byte key
    ∙ ap (λ (n : ℕ). product (byte * 2 ^ n) key) (sym whole))
    ∙ product_by_parts k 8 m x key (omega arith)
    ∙ ap (λ (n : ℕ). product (x % 2 ^ n * 2 ^ m) key) (sym done)
    ∙ ap (λ (n : ℕ). product (x % 2 ^ (8 * (i + 1)) * 2 ^ n) key) (sym left')

pub product_all : (x y i : ℕ) → i ≡ 16 → x < 2 ^ 128 → product (x % 2 ^ (8 * i) * 2 ^ (128 - 8 * i)) y ≡ product x y
product_all x y i e lt =
    ap (λ (j : ℕ). product (x % 2 ^ (8 * j) * 2 ^ (128 - 8 * j)) y) e
    ∙ ap (λ (n : ℕ). product n y) (let same : x % 2 ^ (8 * 16) * 2 ^ (128 - 8 * 16) ≡ x = omega arith in same)

-- ---- the tables of a hash subkey

-- the product one place further to the right
pub product_halved : (k n key highest : ℕ) → k * 2 ^ n < 2 ^ 127 → highest ≡ product (k * 2 * 2 ^ n) key → next_shifted highest ≡ product (k * 2 ^ n) key
product_halved k n key highest small e =
    let place : k * 2 * 2 ^ n ≡ k * 2 ^ n * 2 = omega arith in
    ap next_shifted (e ∙ ap (λ (m : ℕ). product m key) place) ∙ sym (product-shifted (k * 2 ^ n) key small)

-- the sum of two is the product of the sum
two_products : (key n j k : ℕ) → bit_xor (product (j * 2 ^ n) key) (product (k * 2 ^ n) key) ≡ product (bit_xor j k * 2 ^ n) key
two_products key n j k = sym (product-xor (j * 2 ^ n) (k * 2 ^ n) key) ∙ ap (λ (m : ℕ). product m key) (moved-xor n j k)

three_products : (key n i j k : ℕ)
    → bit_xor (bit_xor (product (i * 2 ^ n) key) (product (j * 2 ^ n) key)) (product (k * 2 ^ n) key) ≡ product (bit_xor (bit_xor i j) k * 2 ^ n) key
three_products key n i j k = ap (λ (m : ℕ). bit_xor m (product (k * 2 ^ n) key)) (two_products key n i j) ∙ two_products key n (bit_xor i j) k

sums_of_products : (key n : ℕ) → let a : ℕ = product (8 * 2 ^ n) key in let b : ℕ = product (4 * 2 ^ n) key in let c : ℕ = product (2 * 2 ^ n) key in let d : ℕ = product (1 * 2 ^ n) key in
    HasProducts (0 ∷ d ∷ c ∷ bit_xor c d ∷ b ∷ bit_xor b d ∷ bit_xor b c ∷ bit_xor (bit_xor b c) d
    ∷ a ∷ bit_xor a d ∷ bit_xor a c ∷ bit_xor (bit_xor a c) d ∷ bit_xor a b ∷ bit_xor (bit_xor a b) d ∷ bit_xor (bit_xor a b) c ∷ bit_xor (bit_xor (bit_xor a b) c) d ∷ []) key n
sums_of_products key n zero lt = sym (ap (λ (m : ℕ). product m key) (let none : 0 * 2 ^ n ≡ 0 = omega arith in none) ∙ product-zero key)
sums_of_products key n (suc zero) lt = refl
sums_of_products key n (suc (suc zero)) lt = refl
sums_of_products key n (suc (suc (suc zero))) lt = two_products key n 2 1
sums_of_products key n (suc (suc (suc (suc zero)))) lt = refl
sums_of_products key n (suc (suc (suc (suc (suc zero))))) lt = two_products key n 4 1
sums_of_products key n (suc (suc (suc (suc (suc (suc zero)))))) lt = two_products key n 4 2
sums_of_products key n (suc (suc (suc (suc (suc (suc (suc zero))))))) lt = three_products key n 4 2 1
sums_of_products key n (suc (suc (suc (suc (suc (suc (suc (suc zero)))))))) lt = refl
sums_of_products key n (suc (suc (suc (suc (suc (suc (suc (suc (suc zero))))))))) lt = two_products key n 8 1
sums_of_products key n (suc (suc (suc (suc (suc (suc (suc (suc (suc (suc zero)))))))))) lt = two_products key n 8 2
sums_of_products key n (suc (suc (suc (suc (suc (suc (suc (suc (suc (suc (suc zero))))))))))) lt = three_products key n 8 2 1
sums_of_products key n (suc (suc (suc (suc (suc (suc (suc (suc (suc (suc (suc (suc zero)))))))))))) lt = two_products key n 8 4
sums_of_products key n (suc (suc (suc (suc (suc (suc (suc (suc (suc (suc (suc (suc (suc zero))))))))))))) lt = three_products key n 8 4 1
sums_of_products key n (suc (suc (suc (suc (suc (suc (suc (suc (suc (suc (suc (suc (suc (suc zero)))))))))))))) lt = three_products key n 8 4 2
sums_of_products key n (suc (suc (suc (suc (suc (suc (suc (suc (suc (suc (suc (suc (suc (suc (suc zero))))))))))))))) lt = ap (λ (m : ℕ). bit_xor m (product (1 * 2 ^ n) key)) (three_products key n 8 4 2) ∙ two_products key n 14 1
sums_of_products key n (suc (suc (suc (suc (suc (suc (suc (suc (suc (suc (suc (suc (suc (suc (suc (suc i)))))))))))))))) lt = absurd (omega arith)

-- the hash subkey itself, and its product with the fourth power of x
pub first_power : (key : ℕ) → key ≡ product (8 * 2 ^ 124) key
first_power key = sym (product-one key)

pub second_power : (key highest last : ℕ) → highest ≡ next_shifted last → last ≡ product (1 * 2 ^ 124) key → highest ≡ product (8 * 2 ^ 120) key
second_power key highest last e el = e ∙ product_halved 8 120 key last (omega arith) el

pub products_made : (key n a b c d : ℕ) → n ≤ 124 → a ≡ product (8 * 2 ^ n) key → b ≡ next_shifted a → c ≡ next_shifted b → d ≡ next_shifted c
    → HasProducts (0 ∷ d ∷ c ∷ bit_xor c d ∷ b ∷ bit_xor b d ∷ bit_xor b c ∷ bit_xor (bit_xor b c) d
    ∷ a ∷ bit_xor a d ∷ bit_xor a c ∷ bit_xor (bit_xor a c) d ∷ bit_xor a b ∷ bit_xor (bit_xor a b) d ∷ bit_xor (bit_xor a b) c ∷ bit_xor (bit_xor (bit_xor a b) c) d ∷ []) key n
products_made key n a b c d le ea eb ec ed =
    let small : 2 ^ n ≤ 2 ^ 124 = pow-le-pow_right {n = 2} (omega arith) {i = n} {j = 124} le in
    let P : ℕ → ℕ = λ k. product (k * 2 ^ n) key in
    let eb' : b ≡ P 4 = eb ∙ product_halved 4 n key a (omega arith) ea in
    let ec' : c ≡ P 2 = ec ∙ product_halved 2 n key b (omega arith) eb' in
    let ed' : d ≡ P 1 = ed ∙ product_halved 1 n key c (omega arith) ec' in
    rw (ea, eb', ec', ed') (sums_of_products key n)
