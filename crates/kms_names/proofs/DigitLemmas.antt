-- Decimal digits.
use Rattle.std.proofs.Common.{◌≡◌, ◌<◌, ◌≤◌, ◌+◌, ◌-◌, ◌*◌, ◌^◌, ℕ, zero, suc, List, [], ◌∷◌, length, take, get_or, Bool, true, false, ◌&&◌, refl, arith}
use Rattle.std.proofs.Math.Nat.{pow-le-pow_right}
use Rattle.std.specs.List.{list_all}
use Rattle.std.specs.Char.{is_ascii_digit, digit_value}
use Rattle.std.specs.Str.Parse.{AllDigits, digits_value}
use Rattle.std.proofs.lemmas.Bool.Decides.{nat_tests}
use Rattle.std.proofs.lemmas.Int.Digits.{digits_value-lt, digits_value_more}
use Rattle.std.proofs.lemmas.Str.Parse.{digits_value-take-le}

pub and_left : (a b : Bool) → (a && b) ≡ true → a ≡ true
and_left true b h = refl
and_left false b h = h

pub and_right : (a b : Bool) → (a && b) ≡ true → b ≡ true
and_right true b h = h
and_right false b h = cc

pub is_digit : (c : ℕ) → is_ascii_digit c ≡ true → (48 ≤ c) × (c ≤ 57)
is_digit c h = (grind (arith, nat_tests, h), grind (arith, nat_tests, h))

pub digit_is : (c : ℕ) → 48 ≤ c → c ≤ 57 → digit_value c ≡ c - 48
digit_is c low high = grind (arith, nat_tests)

pub all_digits : (text : List ℕ) → list_all is_ascii_digit text ≡ true → AllDigits 10 text
all_digits [] h = tt
all_digits (c ∷ text) h =
    let d = is_digit c (and_left _ _ h) in
    let value = digit_is c d.0 d.1 in
    (omega (arith, d.0, d.1, value), all_digits text (and_right _ _ h))

pub digit_at : (text : List ℕ) (i : ℕ) → list_all is_ascii_digit text ≡ true → i < length text → (48 ≤ get_or text i 0) × (get_or text i 0 ≤ 57)
digit_at [] i h less = absurd (omega arith)
digit_at (c ∷ text) zero h less = is_digit c (and_left _ _ h)
digit_at (c ∷ text) (suc i) h less = digit_at text i (and_right _ _ h) (omega arith)

-- the number that one more digit makes
pub more_digits : (text : List ℕ) (i : ℕ) → list_all is_ascii_digit text ≡ true → i < length text
    → digits_value 10 (take (i + 1) text) ≡ 10 * digits_value 10 (take i text) + (get_or text i 0 - 48)
more_digits text i h less =
    let d = digit_at text i h less in
    let value = digit_is (get_or text i 0) d.0 d.1 in
    omega (arith, digits_value_more 10 text i less, value)

-- it is small where there are few digits
pub small_front : (text : List ℕ) (i : ℕ) → list_all is_ascii_digit text ≡ true → length text ≤ 18 → digits_value 10 (take i text) < 10 ^ 18
small_front text i h few =
    let all = digits_value-lt 10 text (all_digits text h) in
    let front = digits_value-take-le 10 text i (omega arith) in
    let most = pow-le-pow_right {n = 10} (omega arith) few in
    omega (arith, all, front, most)
