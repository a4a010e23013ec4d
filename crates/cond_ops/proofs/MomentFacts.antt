-- Dates are read in one way.
use Rattle.std.proofs.Common.{◌≡◌, ◌≢◌, ℕ, ◌<◌, ◌≤◌, ◌^◌, true, false, List, ◌∷◌, ◌++◌, length, refl, sym, ◌∙◌, ap, subst, ℤ, pos, Result, Ok, Err, Some, arith, rules}
use mir.Val.{hbits}
use Rattle.std.specs.Int.{Width, IsInRange}
use Rattle.std.specs.Char.{is_ascii_digit}
use Rattle.std.specs.List.{All, AllPass}
use Rattle.std.specs.Result.{result_ok, OkIff}
use Rattle.std.specs.Str.Parse.{ParsesSigned, digits_value}
use Rattle.std.proofs.lemmas.Str.Parse.{IsNumeralModel, IsDigitsTest, numerals_by_value, parse_signed_digits, digits_value_short}
use Rattle.std.proofs.lemmas.List.Elements.{All-weaker, All-append, All-cons, All-head, All-tail}
use Rattle.cond_ops.specs.Cut.{IsCutTwiceAt}
use Rattle.cond_ops.specs.Moment.{HasDigits, AreThree}
use Rattle.cond_ops.proofs.CutFacts.{same_cut}

in_range : (c : ℕ) → is_ascii_digit c ≡ true → IsInRange 48 57 c
in_range c h = search rules

in_digits : (c : ℕ) → IsInRange 48 57 c → is_ascii_digit c ≡ true
in_digits c h = search rules

tells : IsDigitsTest (AllPass is_ascii_digit)
tells = record {
  empty = λ k d h. absurd (omega arith);
  parts = λ c cs all. (in_range c (All-head (λ x. is_ascii_digit x ≡ true) c cs all), All-tail (λ x. is_ascii_digit x ≡ true) c cs all);
  more = λ c cs here all. All-cons (λ x. is_ascii_digit x ≡ true) c cs (in_digits c here) all;
}

pub own : IsNumeralModel (AllPass is_ascii_digit) (digits_value 10)
own = numerals_by_value (AllPass is_ascii_digit) tells

-- so many digits are read as their number
module _ {E : Type 0} (w : Width) (text : List ℕ) where
  read_value : (r : Result ℤ E) → OkIff r ((0 < length text) × (digits_value 10 text < 2 ^ hbits w)) (pos (digits_value 10 text)) → 0 < length text → digits_value 10 text < 2 ^ hbits w
      → result_ok r ≡ Some (pos (digits_value 10 text))
  read_value (Ok x) h some small = ap Some h.1
  read_value (Err e) h some small = absurd (h (some, small))

  pub digits_read : (r : Result ℤ E) → ParsesSigned w 10 text r → AllPass is_ascii_digit text → 0 < length text → (k : ℕ) → length text ≤ k → 10 ^ k ≤ 2 ^ hbits w
      → result_ok r ≡ Some (pos (digits_value 10 text))
  digits_read r parses digits some k short fits =
      let below = digits_value_short own text k digits short in
      read_value r (parse_signed_digits own w text r parses digits) some (omega arith)

not_digit : (m : ℕ) → is_ascii_digit m ≡ false → (c : ℕ) → is_ascii_digit c ≡ true → c ≢ m
not_digit m none c digit same = let both : true ≡ false = sym digit ∙ (ap is_ascii_digit same ∙ none) in cc

pub digits_have_no : (m : ℕ) → is_ascii_digit m ≡ false → (text : List ℕ) → AllPass is_ascii_digit text → All (λ c. c ≢ m) text
digits_have_no m none text digits = All-weaker (λ c. is_ascii_digit c ≡ true) (λ c. c ≢ m) (not_digit m none) text digits

-- a text of three numbers is cut in one way
module _ (m : ℕ) (text x y z : List ℕ) (cut : IsCutTwiceAt m text x y z) where
  pub same_two_cuts : (a b c : List ℕ) → IsCutTwiceAt m text a b c → (a ≡ x) × (b ≡ y) × (c ≡ z)
  same_two_cuts a b c at =
      let one = same_cut m text a (b ++ m ∷ c) x (y ++ m ∷ z) (at.0, at.2) (cut.0, cut.2) in
      let two = same_cut m (b ++ m ∷ c) b c y z (at.1, refl) (cut.1, one.1) in
      (one.0, two.0, two.1)

  pub three_parts : is_ascii_digit m ≡ false → (width a b c : ℕ) → AreThree m width text a b c → HasDigits width x a × HasDigits 2 y b × HasDigits 2 z c
  three_parts none width a b c (p, q, r, e, one, two, three) =
      let same = same_two_cuts p q r (digits_have_no m none p one.1.0, digits_have_no m none q two.1.0, e) in
      (subst (λ t. HasDigits width t a) same.0 one, subst (λ t. HasDigits 2 t b) same.1 two, subst (λ t. HasDigits 2 t c) same.2 three)

-- the numbers of a text are one
one_number : (width : ℕ) (text : List ℕ) (m n : ℕ) → HasDigits width text m → HasDigits width text n → m ≡ n
one_number width text m n here there = here.1.1 ∙ sym there.1.1

cut_of_three : (m width : ℕ) (text : List ℕ) (a b c : ℕ) → is_ascii_digit m ≡ false → (three : AreThree m width text a b c) → IsCutTwiceAt m text three.0 three.1 three.2
cut_of_three m width text a b c none (x, y, z, e, one, two, three) = (digits_have_no m none x one.1.0, digits_have_no m none y two.1.0, e)

pub same_three : (m width : ℕ) (text : List ℕ) → is_ascii_digit m ≡ false → (a b c d e f : ℕ) → AreThree m width text a b c → AreThree m width text d e f → (a ≡ d) × (b ≡ e) × (c ≡ f)
same_three m width text none a b c d e f here there =
    let parts = three_parts m text here.0 here.1 here.2 (cut_of_three m width text a b c none here) none width d e f there in
    (one_number width here.0 a d here.4 parts.0, one_number 2 here.1 b e here.5 parts.1, one_number 2 here.2 c f here.6 parts.2)

-- a text of three numbers has no other letter
pub three_have_no : (k m width : ℕ) (text : List ℕ) (a b c : ℕ) → is_ascii_digit k ≡ false → m ≢ k → AreThree m width text a b c → All (λ d. d ≢ k) text
three_have_no k m width text a b c none other (x, y, z, e, one, two, three) =
    let P : ℕ → Type 0 = λ d. d ≢ k in
    let behind : All P (y ++ m ∷ z) = All-append P y (m ∷ z) (digits_have_no k none y two.1.0) (All-cons P m z other (digits_have_no k none z three.1.0)) in
    subst (All P) (sym e) (All-append P x (m ∷ (y ++ m ∷ z)) (digits_have_no k none x one.1.0) (All-cons P m (y ++ m ∷ z) other behind))
