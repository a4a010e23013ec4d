-- Lines have no byte below 32, and so no tab and no line feed.
use Rattle.std.proofs.Common.{◌≡◌, ◌≢◌, ◌<◌, ◌≤◌, ◌+◌, ◌-◌, ◌/◌, ◌%◌, ℕ, zero, suc, List, [], ◌∷◌, ◌++◌, All, Bool, true, false, cond, not, length, take, codes, decimal, slice_index, nat_lt, inl, inr, refl, sym, ap, ap₂, subst, ◌∙◌, length-append, lit≤, arith}
use Rattle.std.specs.Prelude.{◌==◌, ◌&&◌, ℤ, pos, negsuc}
use Rattle.core.specs.Fmt.{digits, digits_onto, digit_glyph}
use Rattle.std.specs.Char.{is_ascii_digit}
use Rattle.std.specs.List.{list_all, AllPass}
use Rattle.std.proofs.Math.Seq.{take-append_seam}
use Rattle.std.proofs.lemmas.Bool.{and_parts, cases_lt, cases_eq}
use Rattle.std.proofs.lemmas.Bool.Decides.{nat_tests}
use Rattle.std.proofs.lemmas.List.{get_or_past}
use Rattle.std.proofs.lemmas.List.Elements.{All-nil, All-cons, All-head, All-tail, All-append}
use Rattle.std.proofs.lemmas.List.Sums.{AllPass-from_list_all}
use Rattle.hex.specs.Hex.{encode_lower, encode_with, lower_digits}
use Rattle.json.specs.Print.{escape_byte, escape, quoted}
use Rattle.json.proofs.Printed.Strings.{escape_byte_plain}
use Rattle.serde_json.specs.Data.{unsigned, negative, float, Data, null, boolean, number, string, array, object, Items, no_items, item, Members, no_members, member}
use Rattle.serde_json.specs.Written.{comma_if, compact_text, items_text, members_text}
use Rattle.account_rows.specs.declared.entries.Entry.{Entry}
use Rattle.journal_lines.specs.Lines.{entry_data, entry_line}
use Rattle.journal_lines.specs.LineReading.{before_last}
use Rattle.kept_log.specs.Log.{IsPlain}
use Rattle.kept_journal.specs.declared.told.Told.{Told}
use Rattle.kept_journal.specs.declared.told.Told.TheVariants.{Start, Change}
use Rattle.kept_journal.specs.Lines.{Head, head_text, text_of, sealed}
use Rattle.kept_journal.specs.Laws.{EntryLinesArePrintable}

abbrev pub IsHigh : ℕ → Type 0
IsHigh byte = 32 ≤ byte

abbrev pub AreHigh : List ℕ → Type 0
AreHigh text = All IsHigh text

joined : (xs ys : List ℕ) → AreHigh xs → AreHigh ys → AreHigh (xs ++ ys)
joined xs ys p q = All-append IsHigh xs ys p q

none : AreHigh []
none = All-nil IsHigh

more : (byte : ℕ) (text : List ℕ) → 32 ≤ byte → AreHigh text → AreHigh (byte ∷ text)
more byte text is rest = All-cons IsHigh byte text is rest

-- ---- what is computed

abbrev high : ℕ → Bool
high byte = not (nat_lt byte 32)

high_is : (byte : ℕ) → high byte ≡ true → 32 ≤ byte
high_is byte e = grind (arith, nat_tests)

highs_are : (text : List ℕ) → list_all high text ≡ true → AreHigh text
highs_are [] e = none
highs_are (byte ∷ text) e = let parts = and_parts (high byte) (list_all high text) e in more byte text (high_is byte parts.0) (highs_are text parts.1)

abbrev highs_below : ℕ → Bool
highs_below zero = true
highs_below (suc n) = list_all high (escape_byte n) && highs_below n

high_below : (n : ℕ) → highs_below n ≡ true → (x : ℕ) → x < n → list_all high (escape_byte x) ≡ true
high_below zero e x h = absurd (omega arith)
high_below (suc n) e x h =
    let p = and_parts (list_all high (escape_byte n)) (highs_below n) e in
    elim (cases_eq x n) [ inl same ↦ rw same p.0 | inr another ↦ high_below n p.1 x (omega arith) ]

all_high : highs_below 128 ≡ true
unfolding escape_byte
all_high = refl

-- ---- JSON

escaped_byte : (x : ℕ) → AreHigh (escape_byte x)
escaped_byte x = elim (cases_lt x 128) [
  | inl small ↦ highs_are (escape_byte x) (high_below 128 all_high x small)
  | inr big ↦ subst AreHigh (sym (escape_byte_plain x (λ e. omega arith) (λ e. omega arith) (omega arith))) (more x [] (omega arith) none)
]

escaped : (text : List ℕ) → AreHigh (escape text)
escaped [] = none
escaped (x ∷ text) = joined (escape_byte x) (escape text) (escaped_byte x) (escaped text)

quoted_high : (text : List ℕ) → AreHigh (quoted text)
quoted_high text = more 34 (escape text ++ 34 ∷ []) (omega arith) (joined (escape text) (34 ∷ []) (escaped text) (more 34 [] (omega arith) none))

if_high : (b : Bool) (xs ys : List ℕ) → AreHigh xs → AreHigh ys → AreHigh (cond b xs ys)
if_high true xs ys p q = p
if_high false xs ys p q = q

glyph_if : (b : Bool) (d : ℕ) → 32 ≤ cond b (48 + d) (87 + d)
glyph_if true d = omega arith
glyph_if false d = omega arith

glyph_high : (d : ℕ) → 32 ≤ digit_glyph false d
glyph_high d = glyph_if (nat_lt d 10) d

digits_high : (k base n : ℕ) (acc : List ℕ) → AreHigh acc → AreHigh (digits_onto k base false n acc)
digits_high zero base n acc p = p
digits_high (suc k) base n acc p =
    if_high (n / base == 0) (digit_glyph false (n % base) ∷ acc) (digits_onto k base false (n / base) (digit_glyph false (n % base) ∷ acc))
    (more _ acc (glyph_high (n % base)) p) (digits_high k base (n / base) (digit_glyph false (n % base) ∷ acc) (more _ acc (glyph_high (n % base)) p))

pub decimal_high : (n : ℕ) → AreHigh (decimal n)
unfolding digits
decimal_high n = digits_high 64 10 n [] none

comma_high : (later : Bool) → AreHigh (comma_if later)
comma_high true = more 44 [] (omega arith) none
comma_high false = none

mutual
  text_high : (d : Data) → AreHigh (compact_text d)
  text_high null = highs_are (compact_text null) refl
  text_high (boolean true) = highs_are (compact_text (boolean true)) refl
  text_high (boolean false) = highs_are (compact_text (boolean false)) refl
  text_high (number (unsigned n)) = decimal_high n
  text_high (number (negative (pos n))) = decimal_high n
  text_high (number (negative (negsuc n))) = more 45 (decimal (suc n)) (omega arith) (decimal_high (suc n))
  text_high (number (float x)) = none
  text_high (string s) = quoted_high s
  text_high (array ds) = more 91 (items_text false ds) (omega arith) (items_high false ds)
  text_high (object ms) = more 123 (members_text false ms) (omega arith) (members_high false ms)

  items_high : (later : Bool) (ds : Items) → AreHigh (items_text later ds)
  items_high later no_items = more 93 [] (omega arith) none
  items_high later (item d ds) =
      joined (comma_if later) (compact_text d ++ items_text true ds) (comma_high later) (joined (compact_text d) (items_text true ds) (text_high d) (items_high true ds))

  members_high : (later : Bool) (ms : Members) → AreHigh (members_text later ms)
  members_high later no_members = more 125 [] (omega arith) none
  members_high later (member k d ms) =
      joined (comma_if later) (quoted k ++ 58 ∷ (compact_text d ++ members_text true ms)) (comma_high later)
      (joined (quoted k) (58 ∷ (compact_text d ++ members_text true ms)) (quoted_high k)
      (more 58 (compact_text d ++ members_text true ms) (omega arith) (joined (compact_text d) (members_text true ms) (text_high d) (members_high true ms))))

-- ---- lines

pub front : (text : List ℕ) → before_last (text ++ 10 ∷ []) ≡ text
front text =
    let size : length (text ++ 10 ∷ []) - 1 ≡ length text = omega (arith, length-append text (10 ∷ [])) in
    ap (λ (n : ℕ). take n (text ++ 10 ∷ [])) size ∙ take-append_seam text (10 ∷ [])

pub entry_high : EntryLinesArePrintable
unfolding entry_line
entry_high entry = subst AreHigh (sym (front (compact_text (entry_data entry)))) (text_high (entry_data entry))

pub told_high : (one : Told) → AreHigh (text_of one)
unfolding text_of
told_high (Start boot) = joined (codes "\"start\":") (decimal boot) (highs_are (codes "\"start\":") refl) (decimal_high boot)
told_high (Change entry) = joined (codes "\"entry\":") (before_last (entry_line entry)) (highs_are (codes "\"entry\":") refl) (entry_high entry)

-- an account's number has no byte below 32
pub head_high : (account region : List ℕ) → AreHigh account → AreHigh (head_text account region)
unfolding head_text
head_high account region printable =
    joined ((codes "\"kept\":1,\"account\":\"" ++ account) ++ codes "\",\"region\":") (quoted region)
    (joined (codes "\"kept\":1,\"account\":\"" ++ account) (codes "\",\"region\":")
    (joined (codes "\"kept\":1,\"account\":\"") account (highs_are (codes "\"kept\":1,\"account\":\"") refl) printable)
    (highs_are (codes "\",\"region\":") refl))
    (quoted_high region)

-- ---- seals

abbrev IsOther : ℕ → Type 0
IsOther byte = (byte ≢ 10) × (byte ≢ 9)

plainly : (text : List ℕ) → AreHigh text → IsPlain text
plainly [] printable = All-nil IsOther
plainly (byte ∷ text) printable =
    let is : 32 ≤ byte = All-head IsHigh byte text printable in
    All-cons IsOther byte text (λ e. omega (arith, e, is), λ e. omega (arith, e, is)) (plainly text (All-tail IsHigh byte text printable))

-- a digit of hex, or 0 where there is none
abbrev digit : ℕ → ℕ
digit i = slice_index lower_digits i

abbrev other : ℕ → Bool
other byte = not (byte == 10) && not (byte == 9)

other_is : (byte : ℕ) → other byte ≡ true → IsOther byte
other_is byte e = grind (arith, nat_tests)

within_other : (i : ℕ) → i < length lower_digits → IsOther (digit i)
within_other i within = other_is (digit i) (AllPass-from_list_all other lower_digits refl i 0 within)

digit_other : (i : ℕ) → IsOther (digit i)
digit_other i = elim (cases_lt i (length lower_digits)) [
  | inl within ↦ within_other i within
  | inr past ↦ subst IsOther (sym (get_or_past lower_digits i 0 past)) (λ e. omega (arith, e), λ e. omega (arith, e))
]

hex_plain : (seal : List ℕ) → IsPlain (encode_lower seal)
unfolding encode_with
hex_plain [] = All-nil IsOther
hex_plain (b ∷ seal) = All-cons IsOther (digit (b / 16)) (digit (b % 16) ∷ encode_lower seal) (digit_other (b / 16)) (All-cons IsOther (digit (b % 16)) (encode_lower seal) (digit_other (b % 16)) (hex_plain seal))

pub sealed_plain : (text seal : List ℕ) → AreHigh text → IsPlain (sealed text seal)
unfolding sealed
sealed_plain text seal high =
    All-append IsOther text _ (plainly text high)
    (All-append IsOther (codes ",\"seal\":\"") (encode_lower seal ++ codes "\"}") (plainly (codes ",\"seal\":\"") (highs_are (codes ",\"seal\":\"") refl))
    (All-append IsOther (encode_lower seal) (codes "\"}") (hex_plain seal) (plainly (codes "\"}") (highs_are (codes "\"}") refl))))

-- ---- an account's number

digit_high : (c : ℕ) → is_ascii_digit c ≡ true → 32 ≤ c
digit_high c digit = grind (arith, nat_tests)

pub number_high : (text : List ℕ) → AllPass is_ascii_digit text → AreHigh text
number_high [] all = none
number_high (c ∷ text) all = more c text (digit_high c (all 0 0 (omega arith))) (number_high text (λ i d within. all (suc i) d (omega (arith, within))))
