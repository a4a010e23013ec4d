-- A line has one line feed, at its end.
use Rattle.std.proofs.Common.{◌≡◌, ◌≢◌, ℕ, zero, suc, ◌+◌, ◌<◌, ◌≤◌, ◌^◌, ◌/◌, ◌%◌, List, [], ◌∷◌, ◌++◌, length, take, drop, slice_index, codes, decimal, Bool, true, false, not, cond, nat_lt, inl, inr, refl, sym, ap, ap₂, subst, ◌∙◌, append_assoc, length-append, lit≤, arith}
use Rattle.std.specs.Prelude.{◌==◌, ◌&&◌}
use Rattle.std.specs.Char.{is_ascii_digit}
use Rattle.std.specs.List.{list_all, AllPass}
use Rattle.std.specs.Str.{all_ascii_digits}
use Rattle.std.specs.Str.Parse.{digits_value}
use Rattle.std.proofs.Math.Seq.{take-append_seam, drop-append_seam}
use Rattle.std.proofs.lemmas.Bool.{and_parts, cases_lt, cases_eq}
use Rattle.std.proofs.lemmas.Bool.Decides.{nat_tests}
use Rattle.std.proofs.lemmas.List.{get_or_past}
use Rattle.std.proofs.lemmas.List.Sums.{AllPass-from_list_all}
use Rattle.std.proofs.lemmas.Fmt.{digits_decimal}
use Rattle.std.proofs.lemmas.Str.Parse.{IsNumeralModel, numerals_by_value, tells_all_ascii_digits}
use Rattle.hex.specs.Hex.{encode_lower, encode_with, lower_digits}
use Rattle.json.specs.Print.{escape_byte, escape, quoted}
use Rattle.json.proofs.Printed.Strings.{escape_byte_plain}
use Rattle.serde_json.specs.Data.{unsigned, negative, float, Data, null, boolean, number, string, array, object, Items, no_items, item, Members, no_members, member}
use Rattle.serde_json.specs.Written.{comma_if, compact_text, items_text, members_text}
use Rattle.account_rows.specs.declared.entries.Entry.{Entry}
use Rattle.journal_lines.specs.Cuts.{place_of, first_line, behind_line}
use Rattle.journal_lines.specs.Forms.{IsEntry}
use Rattle.journal_lines.specs.FrameLines.{end_line}
use Rattle.journal_lines.specs.Lines.{entry_data, entry_line}
use Rattle.journal_lines.proofs.CutFacts.{place_behind}
use Rattle.journal_lines.proofs.JsonFacts.{IsPlain, ArePlain, AreMembersPlain}
use Rattle.journal_lines.proofs.PlainFacts.{entry_plain}

-- ---- texts with no line feed

abbrev other : ℕ → Bool
other c = not (c == 10)

abbrev pub clean : List ℕ → Bool
clean text = list_all other text

both : (a b : Bool) → a ≡ true → b ≡ true → a && b ≡ true
both a b p q = ap₂ (λ x y. x && y) p q

pub clean-append : (xs ys : List ℕ) → clean xs ≡ true → clean ys ≡ true → clean (xs ++ ys) ≡ true
clean-append [] ys p q = q
clean-append (x ∷ xs) ys p q = let parts = and_parts (other x) (clean xs) p in both (other x) (clean (xs ++ ys)) parts.0 (clean-append xs ys parts.1 q)

is_other : (c : ℕ) → 32 ≤ c → other c ≡ true
is_other c high = grind (arith, nat_tests)

-- ---- JSON

abbrev cleans_below : ℕ → Bool
cleans_below zero = true
cleans_below (suc n) = clean (escape_byte n) && cleans_below n

clean_below : (n : ℕ) → cleans_below n ≡ true → (x : ℕ) → x < n → clean (escape_byte x) ≡ true
clean_below zero e x h = absurd (omega arith)
clean_below (suc n) e x h =
    let p = and_parts (clean (escape_byte n)) (cleans_below n) e in
    elim (cases_eq x n) [ inl same ↦ rw same p.0 | inr another ↦ clean_below n p.1 x (omega arith) ]

all_clean : cleans_below 128 ≡ true
unfolding escape_byte
all_clean = refl

escape_clean : (x : ℕ) → clean (escape_byte x) ≡ true
escape_clean x = elim (cases_lt x 128) [
  | inl small ↦ clean_below 128 all_clean x small
  | inr big ↦ ap clean (escape_byte_plain x (λ e. omega arith) (λ e. omega arith) (omega arith)) ∙ both (other x) true (is_other x (omega arith)) refl
]

escaped : (s : List ℕ) → clean (escape s) ≡ true
escaped [] = refl
escaped (x ∷ s) = clean-append (escape_byte x) (escape s) (escape_clean x) (escaped s)

quoted_clean : (s : List ℕ) → clean (quoted s) ≡ true
quoted_clean s = clean-append (escape s) (34 ∷ []) (escaped s) refl

own : IsNumeralModel (λ ds. all_ascii_digits ds ≡ true) (digits_value 10)
own = numerals_by_value _ tells_all_ascii_digits

digit_clean : (c : ℕ) → is_ascii_digit c ≡ true → other c ≡ true
digit_clean c digit = grind (arith, nat_tests)

digits_clean : (text : List ℕ) → all_ascii_digits text ≡ true → clean text ≡ true
digits_clean [] e = refl
digits_clean (c ∷ text) e =
    let p = and_parts (is_ascii_digit c) (all_ascii_digits text) e in both (other c) (clean text) (digit_clean c p.0) (digits_clean text p.1)

decimal_clean : (n : ℕ) → n < 2 ^ 64 → clean (decimal n) ≡ true
decimal_clean n h = digits_clean (decimal n) (digits_decimal own n h)

comma_clean : (later : Bool) → clean (comma_if later) ≡ true
comma_clean true = refl
comma_clean false = refl

mutual
  text_clean : (d : Data) → IsPlain d → clean (compact_text d) ≡ true
  text_clean null h = refl
  text_clean (boolean true) h = refl
  text_clean (boolean false) h = refl
  text_clean (number (unsigned n)) h = decimal_clean n h
  text_clean (number (negative z)) h = absurd h
  text_clean (number (float x)) h = absurd h
  text_clean (string s) h = quoted_clean s
  text_clean (array ds) h = items_clean false ds h
  text_clean (object ms) h = members_clean false ms h

  items_clean : (later : Bool) (ds : Items) → ArePlain ds → clean (items_text later ds) ≡ true
  items_clean later no_items h = refl
  items_clean later (item d ds) h =
      clean-append (comma_if later) (compact_text d ++ items_text true ds) (comma_clean later)
      (clean-append (compact_text d) (items_text true ds) (text_clean d h.0) (items_clean true ds h.1))

  members_clean : (later : Bool) (ms : Members) → AreMembersPlain ms → clean (members_text later ms) ≡ true
  members_clean later no_members h = refl
  members_clean later (member k d ms) h =
      clean-append (comma_if later) (quoted k ++ 58 ∷ (compact_text d ++ members_text true ms)) (comma_clean later)
      (clean-append (quoted k) (58 ∷ (compact_text d ++ members_text true ms)) (quoted_clean k)
      (clean-append (compact_text d) (members_text true ms) (text_clean d h.1) (members_clean true ms h.3)))

-- ---- hex

digit_at : (i : ℕ) → other (slice_index lower_digits i) ≡ true
digit_at i = elim (cases_lt i (length lower_digits)) [
  | inl within ↦ AllPass-from_list_all other lower_digits refl i 0 within
  | inr past ↦ ap other (get_or_past lower_digits i 0 past)
]

hex_clean : (seal : List ℕ) → clean (encode_lower seal) ≡ true
unfolding encode_with
hex_clean [] = refl
hex_clean (b ∷ seal) =
    both (other (slice_index lower_digits (b / 16))) _ (digit_at (b / 16)) (both (other (slice_index lower_digits (b % 16))) _ (digit_at (b % 16)) (hex_clean seal))

-- ---- lines cut off

module _ (text rest : List ℕ) (none : clean text ≡ true) where
  at_feed : place_of 10 ((text ++ 10 ∷ []) ++ rest) + 1 ≡ length (text ++ 10 ∷ [])
  at_feed =
      let place = ap (place_of 10) (append_assoc text (10 ∷ []) rest) ∙ place_behind 10 text rest (AllPass-from_list_all other text none) in
      omega (arith, place, length-append text (10 ∷ []))

  pub first_is : first_line ((text ++ 10 ∷ []) ++ rest) ≡ text ++ 10 ∷ []
  first_is = ap (λ (n : ℕ). take n ((text ++ 10 ∷ []) ++ rest)) at_feed ∙ take-append_seam (text ++ 10 ∷ []) rest

  pub behind_is : behind_line ((text ++ 10 ∷ []) ++ rest) ≡ rest
  behind_is = ap (λ (n : ℕ). drop n ((text ++ 10 ∷ []) ++ rest)) at_feed ∙ drop-append_seam (text ++ 10 ∷ []) rest

-- the line of an entry is cut off whole
pub entry_first : (entry : Entry) → IsEntry entry → (rest : List ℕ) → first_line (entry_line entry ++ rest) ≡ entry_line entry
unfolding entry_line
entry_first entry form rest = first_is (compact_text (entry_data entry)) rest (text_clean (entry_data entry) (entry_plain entry form))

pub entry_behind : (entry : Entry) → IsEntry entry → (rest : List ℕ) → behind_line (entry_line entry ++ rest) ≡ rest
unfolding entry_line
entry_behind entry form rest = behind_is (compact_text (entry_data entry)) rest (text_clean (entry_data entry) (entry_plain entry form))

-- and so is a last line
end_text : ℕ → List ℕ → List ℕ
end_text count seal = codes "end " ++ (decimal count ++ 32 ∷ encode_lower seal)

end_whole : (count : ℕ) (seal : List ℕ) → end_line count seal ≡ end_text count seal ++ 10 ∷ []
unfolding end_text
end_whole count seal = ap (λ (t : List ℕ). codes "end " ++ t) (sym (append_assoc (decimal count) (32 ∷ encode_lower seal) (10 ∷ [])))

end_clean : (count : ℕ) (seal : List ℕ) → count < 10 ^ 18 → clean (end_text count seal) ≡ true
unfolding end_text
end_clean count seal short =
    let small : count < 2 ^ 64 = let top : 10 ^ 18 ≤ 2 ^ 64 = lit≤ tt in omega arith in
    clean-append (decimal count) (32 ∷ encode_lower seal) (decimal_clean count small) (hex_clean seal)

pub end_first : (count : ℕ) (seal rest : List ℕ) → count < 10 ^ 18 → first_line (end_line count seal ++ rest) ≡ end_line count seal
end_first count seal rest short =
    ap (λ (t : List ℕ). first_line (t ++ rest)) (end_whole count seal) ∙ first_is (end_text count seal) rest (end_clean count seal short) ∙ sym (end_whole count seal)

pub end_behind : (count : ℕ) (seal rest : List ℕ) → count < 10 ^ 18 → behind_line (end_line count seal ++ rest) ≡ rest
end_behind count seal rest short =
    ap (λ (t : List ℕ). behind_line (t ++ rest)) (end_whole count seal) ∙ behind_is (end_text count seal) rest (end_clean count seal short)

-- the line of an entry is no last line
heads : (a b : ℕ) (xs ys : List ℕ) → a ∷ xs ≡ b ∷ ys → a ≡ b
heads a b xs ys e = cc

apart : (xs ys : List ℕ) → 123 ∷ xs ≡ 101 ∷ ys → ⊥
apart xs ys e = let same = heads 123 101 xs ys e in absurd (omega (arith, same))

pub not_end : (entry : Entry) (count : ℕ) (seal : List ℕ) → entry_line entry ≢ end_line count seal
unfolding entry_line
not_end entry count seal e = apart _ _ e
