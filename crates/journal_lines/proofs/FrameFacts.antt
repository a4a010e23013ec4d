-- The first and the last line are read as what they were written of.
use Rattle.std.proofs.Common.{◌≡◌, ℕ, zero, suc, ◌<◌, ◌≤◌, ◌^◌, List, [], ◌∷◌, ◌++◌, length, take, drop, get_or, slice_index, ◌/◌, ◌%◌, inl, inr, take-append-drop, Bool, true, false, not, cond, nat_lt, nat_le, Option, Some, None, Result, decimal, codes, refl, sym, ap, ap₂, subst, ◌∙◌, append_assoc, arith, lit≤}
use Rattle.std.specs.Prelude.{◌==◌, ◌&&◌}
use Rattle.std.specs.Option.{option_map, option_and_then}
use Rattle.std.specs.Result.{result_ok}
use Rattle.std.specs.List.{list_all, AllPass}
use Rattle.std.specs.Char.{is_ascii_digit}
use Rattle.std.specs.Str.{bytes_eq, all_ascii_digits}
use Rattle.std.specs.Str.Parse.{digits_value}
use Rattle.std.proofs.Math.Seq.{take-append_seam, drop-append_seam}
use Rattle.std.proofs.lemmas.Bool.{cases_lt, and_parts, lt-ltb, le-leb, ltb-true, leb-true, eqb-true}
use Rattle.std.proofs.lemmas.Bool.Decides.{nat_tests}
use Rattle.std.proofs.lemmas.List.{get_or_past}
use Rattle.std.proofs.lemmas.List.Sums.{AllPass-from_list_all}
use Rattle.std.proofs.lemmas.Fmt.{decimal_nonempty, length-decimal-le, digits_decimal, digits_value-decimal}
use Rattle.std.proofs.lemmas.Str.Parse.{IsNumeralModel, numerals_by_value, tells_all_ascii_digits, digits_value_short}
use Rattle.std.proofs.lemmas.Slice.Eq.{bytes_eq-Decides}
use Rattle.hex.specs.Hex.{encode_lower, encode_with, decode_sized, lower_digits}
use Rattle.hex.proofs.HexLemmas.{decode_sized-encode_lower}
use Rattle.kms_names.proofs.AsciiFacts.{IsBytes-from_list}
use Rattle.kms_names.specs.Digits.{is_decimal, number_in}
use Rattle.kms_names.specs.Identifier.{IsByteList}
use Rattle.kms_names.specs.Reading.{some_if}
use Rattle.journal_lines.specs.Cuts.{cut_at, number_of, number_and, number_before}
use Rattle.journal_lines.specs.Frames.{behind, if_boot, boot_behind, head_in, if_seal_of, seal_in, seal_alone, seal_behind, end_in}
use Rattle.journal_lines.specs.FrameLines.{head_front, head_line, end_line}
use Rattle.journal_lines.proofs.CutFacts.{cut_behind, cut_is}

own : IsNumeralModel (λ ds. all_ascii_digits ds ≡ true) (digits_value 10)
own = numerals_by_value _ tells_all_ascii_digits

if_true : {A : Type 0} (b : Bool) (o : Option A) → b ≡ true → cond b o None ≡ o
if_true true o e = refl
if_true false o e = cc

if_some : {A : Type 0} (b : Bool) (o : Option A) (x : A) → cond b o None ≡ Some x → (b ≡ true) × (o ≡ Some x)
if_some true o x e = (refl, e)
if_some false o x e = cc

some_true : {A : Type 0} (b : Bool) (x : A) → b ≡ true → some_if b x ≡ Some x
some_true true x e = refl
some_true false x e = cc

some_is : {A : Type 0} (b : Bool) (x y : A) → some_if b x ≡ Some y → (b ≡ true) × (x ≡ y)
some_is true x y e = (refl, cc)
some_is false x y e = cc

-- ---- numbers

as_list : (text : List ℕ) → all_ascii_digits text ≡ true → list_all is_ascii_digit text ≡ true
as_list [] e = refl
as_list (c ∷ text) e = let p = and_parts (is_ascii_digit c) (all_ascii_digits text) e in ap₂ (λ (a b : Bool). a && b) p.0 (as_list text p.1)

as_digits : (text : List ℕ) → list_all is_ascii_digit text ≡ true → all_ascii_digits text ≡ true
as_digits [] e = refl
as_digits (c ∷ text) e = let p = and_parts (is_ascii_digit c) (list_all is_ascii_digit text) e in ap₂ (λ (a b : Bool). a && b) p.0 (as_digits text p.1)

small : (n : ℕ) → n < 10 ^ 18 → n < 2 ^ 64
small n h = let top : 10 ^ 18 ≤ 2 ^ 64 = lit≤ tt in omega arith

all_digits : (n : ℕ) → n < 10 ^ 18 → list_all is_ascii_digit (decimal n) ≡ true
all_digits n h = as_list (decimal n) (digits_decimal own n (small n h))

is_number : (n : ℕ) → n < 10 ^ 18 → is_decimal 18 (decimal n) ≡ true
is_number n h =
    ap₂ (λ (a b : Bool). a && b) (lt-ltb 0 (length (decimal n)) (decimal_nonempty n (small n h)))
    (ap₂ (λ (a b : Bool). a && b) (le-leb (length (decimal n)) 18 (length-decimal-le 18 n (omega arith) h (small n h))) (all_digits n h))

pub number_told : (n : ℕ) → n < 10 ^ 18 → number_of (decimal n) ≡ Some n
number_told n h =
    ap (λ (o : Option ℕ). option_and_then (λ m. some_if (bytes_eq (decimal m) (decimal n)) m) o)
    (if_true (is_decimal 18 (decimal n)) (Some (digits_value 10 (decimal n))) (is_number n h) ∙ ap Some (digits_value-decimal own n (small n h)))
    ∙ some_true (bytes_eq (decimal n) (decimal n)) n ((bytes_eq-Decides (decimal n) (decimal n)).1 refl)

number_found : (digits : List ℕ) (o : Option ℕ) (n : ℕ) → ((m : ℕ) → o ≡ Some m → m < 10 ^ 18) → option_and_then (λ m. some_if (bytes_eq (decimal m) digits) m) o ≡ Some n → (n < 10 ^ 18) × (digits ≡ decimal n)
number_found digits None n short e = cc
number_found digits (Some m) n short e =
    let parts = some_is (bytes_eq (decimal m) digits) m n e in
    (subst (λ (k : ℕ). k < 10 ^ 18) parts.1 (short m refl), sym ((bytes_eq-Decides (decimal m) digits).0 parts.0) ∙ ap decimal parts.1)

number_short : (digits : List ℕ) (m : ℕ) → number_in 18 digits ≡ Some m → m < 10 ^ 18
number_short digits m e =
    let parts = if_some (is_decimal 18 digits) (Some (digits_value 10 digits)) m e in
    let first = and_parts (nat_lt 0 (length digits)) _ parts.0 in
    let rest = and_parts (nat_le (length digits) 18) (list_all is_ascii_digit digits) first.1 in
    let value : digits_value 10 digits ≡ m = cc in
    subst (λ (k : ℕ). k < 10 ^ 18) value (digits_value_short own digits 18 (as_digits digits rest.1) (leb-true (length digits) 18 rest.0))

pub number_is : (digits : List ℕ) (n : ℕ) → number_of digits ≡ Some n → (n < 10 ^ 18) × (digits ≡ decimal n)
number_is digits n e = number_found digits (number_in 18 digits) n (number_short digits) e

no_digit : (stop c : ℕ) → stop < 48 → is_ascii_digit c ≡ true → not (c == stop) ≡ true
no_digit stop c below digit = grind (arith, nat_tests)

pass_at : (stop c : ℕ) (text : List ℕ) (k d : ℕ) → not (c == stop) ≡ true → AllPass (λ c. not (c == stop)) text → k < length (c ∷ text) → not (get_or (c ∷ text) k d == stop) ≡ true
pass_at stop c text zero d first rest lt = first
pass_at stop c text (suc k) d first rest lt = rest k d (omega arith)

no_digits : (stop : ℕ) (text : List ℕ) → stop < 48 → list_all is_ascii_digit text ≡ true → AllPass (λ c. not (c == stop)) text
no_digits stop [] below e = λ k d lt. absurd (omega arith)
no_digits stop (c ∷ text) below e =
    let p = and_parts (is_ascii_digit c) (list_all is_ascii_digit text) e in
    λ k d lt. pass_at stop c text k d (no_digit stop c below p.0) (no_digits stop text below p.1) lt

pub before_told : (stop n : ℕ) (rest : List ℕ) → stop < 48 → n < 10 ^ 18 → number_before stop (decimal n ++ stop ∷ rest) ≡ Some (n, rest)
before_told stop n rest below h =
    ap (λ (o : Option (List ℕ × List ℕ)). option_and_then number_and o) (cut_behind stop (decimal n) rest (no_digits stop (decimal n) below (all_digits n h)))
    ∙ ap (λ (o : Option ℕ). option_map (λ m. (m, rest)) o) (number_told n h)

and_found : (cut : List ℕ × List ℕ) (o : Option ℕ) (found : ℕ × List ℕ) → option_map (λ m. (m, cut.1)) o ≡ Some found → (o ≡ Some found.0) × (cut.1 ≡ found.1)
and_found cut None found e = cc
and_found cut (Some m) found e =
    let same : (m, cut.1) ≡ found = cc in (ap (λ (p : ℕ × List ℕ). Some p.0) same, ap (λ (p : ℕ × List ℕ). p.1) same)

before_found : (stop : ℕ) (text : List ℕ) (o : Option (List ℕ × List ℕ)) (found : ℕ × List ℕ) → ((cut : List ℕ × List ℕ) → o ≡ Some cut → text ≡ cut.0 ++ stop ∷ cut.1)
    → option_and_then number_and o ≡ Some found → (found.0 < 10 ^ 18) × (text ≡ decimal found.0 ++ stop ∷ found.1)
before_found stop text None found makes e = cc
before_found stop text (Some cut) found makes e =
    let parts = and_found cut (number_of cut.0) found e in
    let number = number_is cut.0 found.0 parts.0 in
    (number.0, makes cut refl ∙ ap₂ (λ (a b : List ℕ). a ++ stop ∷ b) number.1 parts.1)

pub before_is : (stop : ℕ) (text : List ℕ) (found : ℕ × List ℕ) → number_before stop text ≡ Some found → (found.0 < 10 ^ 18) × (text ≡ decimal found.0 ++ stop ∷ found.1)
before_is stop text found e = before_found stop text (cut_at stop text) found (cut_is stop text) e

-- ---- fronts

pub behind_told : (front rest : List ℕ) → behind front (front ++ rest) ≡ Some rest
behind_told front rest =
    if_true (bytes_eq (take (length front) (front ++ rest)) front) (Some (drop (length front) (front ++ rest))) ((bytes_eq-Decides (take (length front) (front ++ rest)) front).1 (take-append_seam front rest))
    ∙ ap Some (drop-append_seam front rest)

pub behind_is : (front text rest : List ℕ) → behind front text ≡ Some rest → text ≡ front ++ rest
behind_is front text rest e =
    let parts = if_some (bytes_eq (take (length front) text) front) (Some (drop (length front) text)) rest e in
    let same : drop (length front) text ≡ rest = cc in
    sym (take-append-drop (length front) text) ∙ ap₂ (λ (a b : List ℕ). a ++ b) ((bytes_eq-Decides (take (length front) text) front).0 parts.0) same

-- ---- the first line

pub head_told : (account region : List ℕ) (boot : ℕ) (rest : List ℕ) → boot < 2 ^ 32 → head_in account region (head_line account region boot ++ rest) ≡ Some (boot, rest)
unfolding head_in
head_told account region boot rest h =
    let front : List ℕ = head_front account region in
    ap (boot_behind front) (append_assoc front (decimal boot ++ 10 ∷ []) rest ∙ ap (λ (more : List ℕ). front ++ more) (append_assoc (decimal boot) (10 ∷ []) rest))
    ∙ ap (λ (o : Option (List ℕ)). option_and_then if_boot (option_and_then (number_before 10) o)) (behind_told front (decimal boot ++ 10 ∷ rest))
    ∙ ap (λ (o : Option (ℕ × List ℕ)). option_and_then if_boot o) (before_told 10 boot rest (omega arith) (let low : 2 ^ 32 ≤ 10 ^ 18 = lit≤ tt in omega arith))
    ∙ some_true (nat_lt boot 4294967296) (boot, rest) (lt-ltb boot 4294967296 h)

boot_found : (o : Option (ℕ × List ℕ)) (found : ℕ × List ℕ) → option_and_then if_boot o ≡ Some found → (found.0 < 2 ^ 32) × (o ≡ Some found)
boot_found None found e = cc
boot_found (Some cut) found e =
    let parts = some_is (nat_lt cut.0 4294967296) (cut.0, cut.1) found e in
    (subst (λ (c : ℕ × List ℕ). c.0 < 2 ^ 32) parts.1 (ltb-true cut.0 4294967296 parts.0), ap (λ (c : ℕ × List ℕ). Some c) parts.1)

front_found : (front text : List ℕ) (o : Option (List ℕ)) (found : ℕ × List ℕ) → ((rest : List ℕ) → o ≡ Some rest → text ≡ front ++ rest)
    → option_and_then (number_before 10) o ≡ Some found → text ≡ front ++ (decimal found.0 ++ 10 ∷ found.1)
front_found front text None found makes e = cc
front_found front text (Some rest) found makes e = makes rest refl ∙ ap (λ (more : List ℕ). front ++ more) (before_is 10 rest found e).1

pub head_is : (account region text : List ℕ) (found : ℕ × List ℕ) → head_in account region text ≡ Some found
    → (found.0 < 2 ^ 32) × (text ≡ head_line account region found.0 ++ found.1)
unfolding head_in
head_is account region text found e =
    let front : List ℕ = head_front account region in
    let boot = boot_found (option_and_then (number_before 10) (behind front text)) found e in (
      boot.0,
      front_found front text (behind front text) found (behind_is front text) boot.1
          ∙ ap (λ (more : List ℕ). front ++ more) (sym (append_assoc (decimal found.0) (10 ∷ []) found.1)) ∙ sym (append_assoc front (decimal found.0 ++ 10 ∷ []) found.1),
    )

-- ---- the last line

seal_told : (seal : List ℕ) → IsByteList 32 seal → seal_in (encode_lower seal) ≡ Some seal
seal_told seal form =
    ap (λ (r : Result (List ℕ) _). option_and_then (if_seal_of (encode_lower seal)) (result_ok r)) (decode_sized-encode_lower seal 32 form.0 (IsBytes-from_list 32 seal form))
    ∙ some_true (bytes_eq (encode_lower seal) (encode_lower seal)) seal ((bytes_eq-Decides (encode_lower seal) (encode_lower seal)).1 refl)

digit_at : (i : ℕ) → not (slice_index lower_digits i == 10) ≡ true
digit_at i = elim (cases_lt i (length lower_digits)) [
  | inl within ↦ AllPass-from_list_all (λ c. not (c == 10)) lower_digits refl i 0 within
  | inr past ↦ ap (λ (c : ℕ). not (c == 10)) (get_or_past lower_digits i 0 past)
]

none_there : (p : ℕ → Bool) → AllPass p []
none_there p = λ k d lt. absurd (omega arith)

no_feed : (seal : List ℕ) → AllPass (λ c. not (c == 10)) (encode_lower seal)
unfolding encode_with
no_feed [] = none_there (λ c. not (c == 10))
no_feed (b ∷ seal) =
    let second : AllPass (λ c. not (c == 10)) (slice_index lower_digits (b % 16) ∷ encode_lower seal) =
    λ k d lt. pass_at 10 (slice_index lower_digits (b % 16)) (encode_lower seal) k d (digit_at (b % 16)) (no_feed seal) lt in
    λ k d lt. pass_at 10 (slice_index lower_digits (b / 16)) (slice_index lower_digits (b % 16) ∷ encode_lower seal) k d (digit_at (b / 16)) second lt

pub end_told : (number : ℕ) (seal : List ℕ) → number < 10 ^ 18 → IsByteList 32 seal → end_in (end_line number seal) ≡ Some (number, seal)
unfolding end_in
end_told number seal h form =
    let front : List ℕ = codes "end " in
    ap (λ (o : Option (List ℕ)). option_and_then seal_behind (option_and_then (number_before 32) o)) (behind_told front (decimal number ++ 32 ∷ (encode_lower seal ++ 10 ∷ [])))
    ∙ ap (λ (o : Option (ℕ × List ℕ)). option_and_then seal_behind o) (before_told 32 number (encode_lower seal ++ 10 ∷ []) (omega arith) h)
    ∙ ap (λ (o : Option (List ℕ × List ℕ)). option_and_then (seal_alone number) o) (cut_behind 10 (encode_lower seal) [] (no_feed seal))
    ∙ ap (λ (o : Option (List ℕ)). option_map (λ s. (number, s)) o) (seal_told seal form)

seal_by : (b : Bool) (number : ℕ) (text seal : List ℕ) (found : ℕ × List ℕ) → (b ≡ true → encode_lower seal ≡ text) → option_map (λ s. (number, s)) (some_if b seal) ≡ Some found
    → (number ≡ found.0) × (text ≡ encode_lower found.1)
seal_by false number text seal found is e = cc
seal_by true number text seal found is e =
    let same : (number, seal) ≡ found = cc in
    (ap (λ (p : ℕ × List ℕ). p.0) same, sym (is refl) ∙ ap (λ (p : ℕ × List ℕ). encode_lower p.1) same)

seal_found : (number : ℕ) (text : List ℕ) (o : Option (List ℕ)) (found : ℕ × List ℕ) → option_map (λ s. (number, s)) (option_and_then (if_seal_of text) o) ≡ Some found
    → (number ≡ found.0) × (text ≡ encode_lower found.1)
seal_found number text None found e = cc
seal_found number text (Some seal) found e = seal_by (bytes_eq (encode_lower seal) text) number text seal found (λ is. (bytes_eq-Decides (encode_lower seal) text).0 is) e

alone_found : (number : ℕ) (cut : List ℕ × List ℕ) (found : ℕ × List ℕ) → seal_alone number cut ≡ Some found → (number ≡ found.0) × (cut.0 ≡ encode_lower found.1) × (cut.1 ≡ [])
alone_found number (text, []) found e = let parts = seal_found number text (result_ok (decode_sized text 32)) found e in (parts.0, parts.1, refl)
alone_found number (text, c ∷ rest) found e =
    let empty = (if_some (length (c ∷ rest) == 0) _ found e).0 in
    let none : length (c ∷ rest) ≡ 0 = eqb-true (length (c ∷ rest)) 0 empty in
    absurd (omega arith)

sealed : (number : ℕ) (o : Option (List ℕ × List ℕ)) (rest : List ℕ) (found : ℕ × List ℕ) → ((cut : List ℕ × List ℕ) → o ≡ Some cut → rest ≡ cut.0 ++ 10 ∷ cut.1)
    → option_and_then (seal_alone number) o ≡ Some found → (number ≡ found.0) × (rest ≡ encode_lower found.1 ++ 10 ∷ [])
sealed number None rest found makes e = cc
sealed number (Some cut) rest found makes e =
    let parts = alone_found number cut found e in
    (parts.0, makes cut refl ∙ ap₂ (λ (a b : List ℕ). a ++ 10 ∷ b) parts.1 parts.2)

numbered : (front line : List ℕ) (o : Option (ℕ × List ℕ)) (found : ℕ × List ℕ) → ((cut : ℕ × List ℕ) → o ≡ Some cut → (cut.0 < 10 ^ 18) × (line ≡ front ++ (decimal cut.0 ++ 32 ∷ cut.1)))
    → option_and_then seal_behind o ≡ Some found → (found.0 < 10 ^ 18) × (line ≡ front ++ (decimal found.0 ++ 32 ∷ (encode_lower found.1 ++ 10 ∷ [])))
numbered front line None found makes e = cc
numbered front line (Some cut) found makes e =
    let made = makes cut refl in
    let parts = sealed cut.0 (cut_at 10 cut.1) cut.1 found (cut_is 10 cut.1) e in
    (subst (λ (n : ℕ). n < 10 ^ 18) parts.0 made.0, made.1 ∙ ap₂ (λ (n : ℕ) (more : List ℕ). front ++ (decimal n ++ 32 ∷ more)) parts.0 parts.1)

fronted : (front line : List ℕ) (o : Option (List ℕ)) (cut : ℕ × List ℕ) → ((rest : List ℕ) → o ≡ Some rest → line ≡ front ++ rest)
    → option_and_then (number_before 32) o ≡ Some cut → (cut.0 < 10 ^ 18) × (line ≡ front ++ (decimal cut.0 ++ 32 ∷ cut.1))
fronted front line None cut makes e = cc
fronted front line (Some rest) cut makes e =
    let parts = before_is 32 rest cut e in (parts.0, makes rest refl ∙ ap (λ (more : List ℕ). front ++ more) parts.1)

pub end_is : (line : List ℕ) (found : ℕ × List ℕ) → end_in line ≡ Some found → (found.0 < 10 ^ 18) × (line ≡ end_line found.0 found.1)
unfolding end_in
end_is line found e =
    let front : List ℕ = codes "end " in
    numbered front line (option_and_then (number_before 32) (behind front line)) found (λ cut is. fronted front line (behind front line) cut (behind_is front line) is) e
