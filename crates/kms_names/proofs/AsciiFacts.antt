-- Facts on texts whose characters pass a test.
use Rattle.std.proofs.Common.{◌≡◌, ◌≢◌, ℕ, ◌<◌, Bool, true, List, arith, rules, length, lit<, inl, inr, get_or}
use Rattle.std.specs.List.{AllPass}
use Rattle.std.specs.Str.{IsAscii, IsUtf8}
use Rattle.std.specs.Char.{is_ascii_digit}
use Rattle.std.proofs.lemmas.Bool.Decides.{nat_tests}
use Rattle.std.proofs.lemmas.List.Elements.{All-weaker, All-from_recursion, All-from_get_or}
use Rattle.std.proofs.lemmas.Str.{IsUtf8-from_ascii}
use Rattle.kms_names.specs.Characters.{is_region_character}
use Rattle.hex.specs.Hex.{lower_digits, IsBytes}
use Rattle.kms_names.specs.Identifier.{IsByteList}
use Rattle.std.proofs.lemmas.Bool.{cases_lt}
use Rattle.std.proofs.lemmas.List.{get_or_past}
use Rattle.std.proofs.lemmas.Str.Ascii.{IsAscii-from_all}

-- what passes a test that only ASCII passes is text
pub IsUtf8-from_test : (p : ℕ → Bool) → ((c : ℕ) → p c ≡ true → c < 128) → (text : List ℕ) → AllPass p text → IsUtf8 text
IsUtf8-from_test p small text passes =
    IsUtf8-from_ascii text (IsAscii-from_all text (All-weaker (λ c. p c ≡ true) (λ c. c < 128) small text passes))

pub digit_is_ascii : (c : ℕ) → is_ascii_digit c ≡ true → c < 128
digit_is_ascii c h = grind (arith, nat_tests)

pub digit_is_no_colon : (c : ℕ) → is_ascii_digit c ≡ true → c ≢ 58
digit_is_no_colon c h e = grind (arith, nat_tests)

pub IsAscii-lower_digits : IsAscii lower_digits
IsAscii-lower_digits = IsAscii-from_all lower_digits (All-from_recursion (λ c. c < 128) lower_digits (search rules))

pub region_character_is_no_colon : (c : ℕ) → is_region_character c ≡ true → c ≢ 58
region_character_is_no_colon c h e = grind (arith, nat_tests)

-- a list of bytes has no other number at any place
pub IsBytes-from_list : (n : ℕ) (bytes : List ℕ) → IsByteList n bytes → IsBytes bytes
IsBytes-from_list n bytes (len, small) i =
    elim (cases_lt i (length bytes)) [ inl within ↦ small i 0 within | inr past ↦ rw (get_or_past bytes i 0 past) (lit< tt) ]

pub IsByteList-from_places : (n : ℕ) (bytes : List ℕ) → length bytes ≡ n → ((i : ℕ) → get_or bytes i 0 < 256) → IsByteList n bytes
IsByteList-from_places n bytes len small = (len, All-from_get_or (λ b. b < 256) bytes 0 (λ i _. small i))
