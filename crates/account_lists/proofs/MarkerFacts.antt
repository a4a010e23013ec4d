-- A number that is written in decimal is read as that number.
use Rattle.std.proofs.Common.{◌≡◌, ℕ, ◌<◌, ◌≤◌, ◌^◌, List, [], ◌∷◌, length, Bool, true, false, cond, Option, Some, None, decimal, refl, sym, ap, ap₂, ◌∙◌, arith, lit≤}
use Rattle.std.specs.Prelude.{◌&&◌}
use Rattle.std.specs.List.{list_all}
use Rattle.std.specs.Char.{is_ascii_digit}
use Rattle.std.specs.Str.{all_ascii_digits}
use Rattle.std.specs.Str.Parse.{digits_value}
use Rattle.std.proofs.lemmas.Bool.{and_parts, lt-ltb, le-leb}
use Rattle.std.proofs.lemmas.Fmt.{decimal_nonempty, length-decimal-le, digits_decimal, digits_value-decimal}
use Rattle.std.proofs.lemmas.Str.Parse.{IsNumeralModel, numerals_by_value, tells_all_ascii_digits}
use Rattle.serde_json.specs.Data.{string}
use Rattle.kms_names.specs.Digits.{is_decimal, number_in}
use Rattle.account_lists.specs.Pages.{behind_place, behind_marker, MarkersReadBack}

own : IsNumeralModel (λ ds. all_ascii_digits ds ≡ true) (digits_value 10)
own = numerals_by_value _ tells_all_ascii_digits

as_list : (text : List ℕ) → all_ascii_digits text ≡ true → list_all is_ascii_digit text ≡ true
as_list [] e = refl
as_list (c ∷ text) e = let p = and_parts (is_ascii_digit c) (all_ascii_digits text) e in ap₂ (λ (a b : Bool). a && b) p.0 (as_list text p.1)

small : (n : ℕ) → n < 10 ^ 18 → n < 2 ^ 64
small n h = let top : 10 ^ 18 ≤ 2 ^ 64 = lit≤ tt in omega arith

is_number : (n : ℕ) → n < 10 ^ 18 → is_decimal 18 (decimal n) ≡ true
is_number n h =
    ap₂ (λ (a b : Bool). a && b) (lt-ltb 0 (length (decimal n)) (decimal_nonempty n (small n h)))
    (ap₂ (λ (a b : Bool). a && b) (le-leb (length (decimal n)) 18 (length-decimal-le 18 n (omega arith) h (small n h))) (as_list (decimal n) (digits_decimal own n (small n h))))

if_true : {A : Type 0} (b : Bool) (o : Option A) → b ≡ true → cond b o None ≡ o
if_true true o e = refl
if_true false o e = cc

number_read : (n : ℕ) → n < 10 ^ 18 → number_in 18 (decimal n) ≡ Some n
number_read n h = if_true (is_decimal 18 (decimal n)) (Some (digits_value 10 (decimal n))) (is_number n h) ∙ ap Some (digits_value-decimal own n (small n h))

pub read_back : MarkersReadBack
read_back place text fits is =
    let same : decimal place ≡ text = cc in
    ap (λ (t : List ℕ). behind_place (number_in 18 t)) (sym same) ∙ ap behind_place (number_read place fits)
