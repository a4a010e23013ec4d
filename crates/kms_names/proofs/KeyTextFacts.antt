-- Printing and reading of ids agree.
use Rattle.std.proofs.Common.{◌≡◌, ℕ, ◌+◌, ◌*◌, ◌/◌, ◌%◌, ◌<◌, Bool, true, false, List, length, get_or, if◌then◌else◌, Option, Some, None, refl, ap, sym, ◌∙◌, subst, inl, inr, arith}
use Rattle.std.specs.Prelude.{slice_index}
use Rattle.std.specs.List.{list_all}
use Rattle.std.specs.Char.{to_ascii_lowercase}
use Rattle.std.specs.Str.{str_to_ascii_lowercase}
use Rattle.std.proofs.lemmas.Bool.{and_parts, cases_lt, cases_Bool, or_cases, eqb-true}
use Rattle.std.proofs.lemmas.Bool.Decides.{nat_tests}
use Rattle.std.proofs.lemmas.Option.{cond_some}
use Rattle.std.proofs.lemmas.List.{get_or-map, length-map}
use Rattle.std.proofs.lemmas.List.Recursion.{and_at}
use Rattle.std.proofs.lemmas.List.Elements.{All-from_get_or}
use Rattle.kms_names.specs.Identifier.{IsKeyId}
use Rattle.uuid.specs.Text.{parsed_hyphenated, hyphenated_text, lower, digits_of, has_hyphens, is_hex_digit, value_of, byte_of_digits, by_index, hyphen_place, digit_place, is_hyphen_place, nibble, hex_digit, hyphen}
use Rattle.uuid.proofs.TextLemmas.{by_index_at, by_index_same, by_index_length, nibble_even, nibble_odd}

value_small : (c : ℕ) → is_hex_digit c ≡ true → value_of c < 16
value_small c hex = grind (arith, nat_tests)

-- a digit that was read is printed in lower case
printed_digit : (c : ℕ) → is_hex_digit c ≡ true → hex_digit lower (value_of c) ≡ to_ascii_lowercase c
printed_digit c hex = grind (arith, nat_tests)

if_some : {A : Type 0} (b : Bool) (o : Option A) (x : A) → (if b then o else None) ≡ Some x → (b ≡ true) × (o ≡ Some x)
if_some true o x e = (refl, e)
if_some false o x e = cc

-- what a text that reads as an id is made of
pub record IsWrittenId (text key : List ℕ) : Type 0 where
  pub long : length text ≡ 36
  pub hyphens : has_hyphens text ≡ true
  pub digits : (i : ℕ) → i < 32 → is_hex_digit (slice_index text (hyphen_place i)) ≡ true
  pub bytes : by_index 16 (byte_of_digits (digits_of text)) ≡ key

digit_at : (text : List ℕ) (i : ℕ) → i < 32 → slice_index (digits_of text) i ≡ slice_index text (hyphen_place i)
digit_at text i within = by_index_at 32 (λ i. slice_index text (hyphen_place i)) i 0 within

pub written_id : (text key : List ℕ) → parsed_hyphenated text ≡ Some key → IsWrittenId text key
written_id text key reads =
    let whole = if_some _ _ _ reads in
    let parts = and_parts _ _ whole.0 in
    let simple = cond_some _ _ _ whole.1 in
    let hex = and_parts _ _ simple.0 in record {
      long = eqb-true _ _ parts.0;
      hyphens = parts.1;
      digits = λ i within. rw (← digit_at text i within)
          (and_at (list_all is_hex_digit) is_hex_digit refl (λ _ _. refl) (digits_of text) i 0 (rw (by_index_length 32 (λ i. slice_index text (hyphen_place i))) within) hex.1);
      bytes = simple.1;
    }

high_half : (a b : ℕ) → a < 16 → b < 16 → (a * 16 + b) / 16 % 16 ≡ a
high_half a b high low = omega arith

low_half : (a b : ℕ) → a < 16 → b < 16 → (a * 16 + b) % 16 ≡ b
low_half a b high low = omega arith

module _ (text key : List ℕ) (w : IsWrittenId text key) where
  -- the character at the place of a digit
  digit : ℕ → ℕ
  digit i = slice_index text (hyphen_place i)

  byte_is : (j : ℕ) → j < 16 → get_or key j 0 ≡ value_of (digit (2 * j)) * 16 + value_of (digit (2 * j + 1))
  unfolding digit
  byte_is j within =
      rw (← w.bytes, by_index_at 16 (byte_of_digits (digits_of text)) j 0 within, digit_at text (2 * j) (omega arith), digit_at text (2 * j + 1) (omega arith)) refl

  small : (i : ℕ) → i < 32 → value_of (digit i) < 16
  unfolding digit
  small i within = value_small (slice_index text (hyphen_place i)) (w.digits i within)

  nibble_at_even : (j : ℕ) → j < 16 → nibble key (2 * j) ≡ value_of (digit (2 * j))
  nibble_at_even j within =
      let high : value_of (digit (2 * j)) < 16 = small (2 * j) (omega arith) in
      let low : value_of (digit (2 * j + 1)) < 16 = small (2 * j + 1) (omega arith) in
      rw (nibble_even key j, byte_is j within) (high_half _ _ high low)

  nibble_at_odd : (j : ℕ) → j < 16 → nibble key (2 * j + 1) ≡ value_of (digit (2 * j + 1))
  nibble_at_odd j within =
      let high : value_of (digit (2 * j)) < 16 = small (2 * j) (omega arith) in
      let low : value_of (digit (2 * j + 1)) < 16 = small (2 * j + 1) (omega arith) in
      rw (nibble_odd key j, byte_is j within) (low_half _ _ high low)

  nibble_is : (i : ℕ) → i < 32 → nibble key i ≡ value_of (digit i)
  nibble_is i within =
      let P : ℕ → Type 0 = λ i. nibble key i ≡ value_of (digit i) in
      let half : i / 2 < 16 = omega arith in
      elim (cases_lt (i % 2) 1) [
        | inl even ↦ let same : 2 * (i / 2) ≡ i = omega arith in subst P same (nibble_at_even (i / 2) half)
        | inr odd ↦ let same : 2 * (i / 2) + 1 ≡ i = omega arith in subst P same (nibble_at_odd (i / 2) half)
      ]

  hyphen_here : (k : ℕ) → is_hyphen_place k ≡ true → slice_index text k ≡ hyphen
  hyphen_here k here =
      let at_23 = and_parts _ _ w.hyphens in
      let at_18 = and_parts _ _ at_23.0 in
      let at_13 = and_parts _ _ at_18.0 in
      let P : ℕ → Type 0 = λ k. slice_index text k ≡ hyphen in
      elim (or_cases _ _ here) [
        | inl first ↦ elim (or_cases _ _ first) [
          | inl first ↦ elim (or_cases _ _ first) [
            | inl is_8 ↦ subst P (sym (eqb-true k 8 is_8)) (eqb-true _ _ at_13.0)
            | inr is_13 ↦ subst P (sym (eqb-true k 13 is_13)) (eqb-true _ _ at_13.1)
          ]
          | inr is_18 ↦ subst P (sym (eqb-true k 18 is_18)) (eqb-true _ _ at_18.1)
        ]
        | inr is_23 ↦ subst P (sym (eqb-true k 23 is_23)) (eqb-true _ _ at_23.1)
      ]

  -- a place of the printed text
  printed : ℕ → ℕ
  printed k = if is_hyphen_place k then hyphen else hex_digit lower (nibble key (digit_place k))

  place_is : (k : ℕ) → k < 36 → to_ascii_lowercase (slice_index text k) ≡ printed k
  unfolding digit printed
  place_is k within =
      elim (cases_Bool (is_hyphen_place k)) [
        | inl here ↦ rw (hyphen_here k here, here) refl
        | inr other ↦
            let back : hyphen_place (digit_place k) ≡ k = grind (arith, nat_tests) in
            let small_place : digit_place k < 32 = grind (arith, nat_tests) in
            let same : digit (digit_place k) ≡ slice_index text k = ap (λ n. slice_index text n) back in
            rw (other, nibble_is (digit_place k) small_place, printed_digit (digit (digit_place k)) (w.digits (digit_place k) small_place)) (ap to_ascii_lowercase (sym same))
      ]

  pub printed_back : hyphenated_text lower key ≡ str_to_ascii_lowercase text
  unfolding printed
  printed_back = sym (by_index_same (str_to_ascii_lowercase text) 36 printed (length-map text to_ascii_lowercase ∙ w.long)
      (λ k d within. let inside : k < length text = rw w.long within in get_or-map to_ascii_lowercase text k 0 d inside ∙ place_is k within))

  pub key_is_id : IsKeyId key
  key_is_id =
      let long : length key ≡ 16 = ap length (sym w.bytes) ∙ by_index_length 16 (byte_of_digits (digits_of text)) in (
        long,
        All-from_get_or (λ b. b < 256) key 0 (λ j within. let high : value_of (digit (2 * j)) < 16 = small (2 * j) (omega arith) in
            let low : value_of (digit (2 * j + 1)) < 16 = small (2 * j + 1) (omega arith) in omega (arith, byte_is j (omega arith))),
      )
