-- Numbers among the words.
use Rattle.std.proofs.Common.{◌≡◌, ◌<◌, ◌^◌, ◌&&◌, ℕ, List, [], ◌∷◌, length, Bool, true, false, Some, None, Err, refl, sym, ap, ◌∙◌, arith, if◌then◌else◌, nat_lt}
use Rattle.std.specs.Prelude.{option_and_then, nat_le}
use Rattle.std.specs.List.{list_all}
use Rattle.std.specs.Char.{is_ascii_digit}
use Rattle.std.specs.Str.{all_ascii_digits}
use Rattle.std.specs.Str.Parse.{ParsesUnsigned, digits_value}
use Rattle.std.proofs.lemmas.Bool.Decides.{nat_tests}
use Rattle.std.proofs.lemmas.Str.Parse.{numerals_by_value, tells_all_ascii_digits, parse_digits}
use Rattle.kms_names.specs.Digits.{is_decimal}
use Rattle.kms_names.specs.Reading.{some_if}
use Rattle.kms_words.specs.Numbers.{number_within}

same_test : (ds : List ℕ) → list_all is_ascii_digit ds ≡ all_ascii_digits ds
same_test [] = refl
same_test (c ∷ cs) = ap (λ (b : Bool). is_ascii_digit c && b) (same_test cs)

both_of : (a b : Bool) → (a && b) ≡ true → (a ≡ true) × (b ≡ true)
both_of true b is = (refl, is)
both_of false b is = cc

some_of : (n : ℕ) → nat_lt 0 n ≡ true → 0 < n
some_of n is = grind (arith, nat_tests)

large_is_beyond : (bits n most : ℕ) → most < 2 ^ bits → ¬ (n < 2 ^ bits) → nat_le n most ≡ false
large_is_beyond bits n most fits large = grind (arith, nat_tests)

none_of : (a b : Bool) (n : ℕ) → b ≡ false → None ≡ some_if (a && b) n
none_of true b n is = ap (λ (x : Bool). some_if x n) (sym is)
none_of false b n is = refl

-- digits that are too large for so many bits are no number within a bound that fits
pub too_large : {E : Type 0} (bits least most : ℕ) (text : List ℕ) (why : E) → most < 2 ^ bits → is_decimal 20 text ≡ true → ParsesUnsigned {E = E} bits 10 text (Err why)
    → None ≡ number_within least most text
too_large {E} bits least most text why fits is fails =
    let some = both_of (nat_lt 0 (length text)) (nat_le (length text) 20 && list_all is_ascii_digit text) is in
    let digits = both_of (nat_le (length text) 20) (list_all is_ascii_digit text) some.1 in
    let own = numerals_by_value (λ (ds : List ℕ). all_ascii_digits ds ≡ true) tells_all_ascii_digits in
    let large : ¬ (digits_value 10 text < 2 ^ bits) = λ (few : digits_value 10 text < 2 ^ bits). parse_digits own bits text (Err why) fails (sym (same_test text) ∙ digits.1) (some_of (length text) some.0, few) in
    none_of (nat_le least (digits_value 10 text)) (nat_le (digits_value 10 text) most) (digits_value 10 text) (large_is_beyond bits (digits_value 10 text) most fits large)
    ∙ ap (λ (b : Bool). option_and_then (λ (number : ℕ). some_if (nat_le least number && nat_le number most) number) (if b then Some (digits_value 10 text) else None)) (sym is)
