-- A vector tells its boot, its pass number and its count.
use Rattle.std.proofs.Common.{◌≡◌, ℕ, ◌<◌, ◌^◌, List, ◌∷◌, take, drop, sym, ap, ◌∙◌, arith}
use Rattle.std.proofs.lemmas.Nat.{from_be_bytes-to_be_bytes_2, from_be_bytes-to_be_bytes_4, from_be_bytes-to_be_bytes_8}
use Rattle.std.specs.Int.{w16, w32, w64, byte_at, to_be_bytes, from_be_bytes, bytes_high_first}
use Rattle.draw_lines.specs.Iv.{iv_at}

two_bytes_tell : (a b : ℕ) → a < 2 ^ 16 → b < 2 ^ 16 → to_be_bytes w16 a ≡ to_be_bytes w16 b → a ≡ b
two_bytes_tell a b a_fits b_fits same =
    sym (from_be_bytes-to_be_bytes_2 a a_fits) ∙ ap (from_be_bytes w16) same ∙ from_be_bytes-to_be_bytes_2 b b_fits

four_bytes_tell : (a b : ℕ) → a < 2 ^ 32 → b < 2 ^ 32 → to_be_bytes w32 a ≡ to_be_bytes w32 b → a ≡ b
four_bytes_tell a b a_fits b_fits same =
    sym (from_be_bytes-to_be_bytes_4 a a_fits) ∙ ap (from_be_bytes w32) same ∙ from_be_bytes-to_be_bytes_4 b b_fits

-- a number below 2 ^ 48 has two zeros above its six bytes
byte_7_zero : (n : ℕ) → n < 2 ^ 48 → byte_at 7 n ≡ 0
byte_7_zero n fits = omega arith

byte_6_zero : (n : ℕ) → n < 2 ^ 48 → byte_at 6 n ≡ 0
byte_6_zero n fits = omega arith

eight_bytes : (n : ℕ) → n < 2 ^ 48 → to_be_bytes w64 n ≡ 0 ∷ 0 ∷ bytes_high_first 6 n
eight_bytes n fits =
    ap (λ (b : ℕ). b ∷ byte_at 6 n ∷ bytes_high_first 6 n) (byte_7_zero n fits)
    ∙ ap (λ (b : ℕ). 0 ∷ b ∷ bytes_high_first 6 n) (byte_6_zero n fits)

six_bytes_tell : (a b : ℕ) → a < 2 ^ 48 → b < 2 ^ 48 → bytes_high_first 6 a ≡ bytes_high_first 6 b → a ≡ b
six_bytes_tell a b a_fits b_fits same =
    let whole : to_be_bytes w64 a ≡ to_be_bytes w64 b =
    eight_bytes a a_fits ∙ ap (λ (bytes : List ℕ). 0 ∷ 0 ∷ bytes) same ∙ sym (eight_bytes b b_fits) in
    let a_small : a < 2 ^ 64 = omega arith in
    let b_small : b < 2 ^ 64 = omega arith in
    sym (from_be_bytes-to_be_bytes_8 a a_small) ∙ ap (from_be_bytes w64) whole ∙ from_be_bytes-to_be_bytes_8 b b_small

pub boot_told : (a b p q i j : ℕ) → a < 2 ^ 32 → b < 2 ^ 32 → iv_at a p i ≡ iv_at b q j → a ≡ b
unfolding iv_at
boot_told a b p q i j a_fits b_fits same = four_bytes_tell a b a_fits b_fits (ap (take 4) same)

pub pass_told : (a b p q i j : ℕ) → p < 2 ^ 16 → q < 2 ^ 16 → iv_at a p i ≡ iv_at b q j → p ≡ q
unfolding iv_at
pass_told a b p q i j p_fits q_fits same =
    two_bytes_tell p q p_fits q_fits (ap (λ (iv : List ℕ). take 2 (drop 4 iv)) same)

pub count_told : (a b p q i j : ℕ) → i < 2 ^ 48 → j < 2 ^ 48 → iv_at a p i ≡ iv_at b q j → i ≡ j
unfolding iv_at
count_told a b p q i j i_fits j_fits same = six_bytes_tell i j i_fits j_fits (ap (drop 6) same)
