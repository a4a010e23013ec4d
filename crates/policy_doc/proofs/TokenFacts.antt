-- The tokens of names and of indexes, and what they are decoded to.
use Rattle.std.proofs.Common.{◌≡◌, ◌≢◌, inl, inr, ℕ, zero, suc, ◌/◌, ◌%◌, ◌<◌, ◌+◌, nat_lt, Bool, true, false, ◌==◌, List, [], ◌∷◌, ◌++◌, get_or, refl, sym, ap, ◌∙◌, arith, append-nil, if◌then◌else◌}
use Rattle.std.specs.Prelude.{codes, decimal, chars, encode_utf8}
use Rattle.std.specs.Fmt.{digit_glyph, digits_onto, digits}
use Rattle.std.specs.List.{All, list_all}
use Rattle.std.specs.Str.{IsAscii, encode_utf8_all}
use Rattle.std.proofs.lemmas.Bool.{eqb-true, eqb-false, ne_eqb, ltb-true, lt-ltb, and_parts, and_left}
use Rattle.std.proofs.lemmas.List.Elements.{All-head, All-tail, All-from_get_or}
use Rattle.std.proofs.lemmas.Str.{encode_ascii, inside_one, chars-IsAscii, encodes-IsAscii}
use Rattle.policy_doc.specs.Paths.{escaped_char, escaped_chars, escaped}
use Rattle.policy_doc.specs.Pointers.{BeginsWithZeroOrOne, IsToken, replaced, decoded}

-- ---- tokens

token_cons : (c : ℕ) (text : List ℕ) → c ≢ 47 → c ≢ 126 → IsToken text → IsToken (c ∷ text)
token_cons c text slash tilde is = (slash, λ e. absurd (tilde e), is)

token_append : (xs ys : List ℕ) → IsToken xs → IsToken ys → IsToken (xs ++ ys)
token_append [] ys x y = y
token_append (c ∷ xs) ys x y = (x.0, λ e. more xs (x.1 e), token_append xs ys x.2 y)
  where
    more : (xs : List ℕ) → BeginsWithZeroOrOne xs → BeginsWithZeroOrOne (xs ++ ys)
    more [] none = absurd none
    more (d ∷ xs) digit = digit

plain_token : (xs : List ℕ) → All (λ x. x ≢ 47) xs → All (λ x. x ≢ 126) xs → IsToken xs
plain_token [] slash tilde = tt
plain_token (c ∷ xs) slash tilde =
    token_cons c xs (All-head (λ x. x ≢ 47) c xs slash) (All-head (λ x. x ≢ 126) c xs tilde) (plain_token xs (All-tail (λ x. x ≢ 47) c xs slash) (All-tail (λ x. x ≢ 126) c xs tilde))

-- an ASCII byte stands in no other character's bytes
avoids : (b c : ℕ) → b < 128 → c ≢ b → All (λ x. x ≢ b) (encode_utf8 c)
avoids b c small other = All-from_get_or (λ x. x ≢ b) (encode_utf8 c) 0
    (λ i below same. let low : get_or (encode_utf8 c) i 0 < 128 = omega arith in other (inside_one c [] (encode_utf8 c) i (sym (append-nil (encode_utf8 c))) below low ∙ same))

token_char : (c : ℕ) → IsToken (escaped_char c)
token_char c = by_tests (c == 126) (c == 47) refl refl
  where
    by_tests : (a b : Bool) → (c == 126) ≡ a → (c == 47) ≡ b → IsToken (if a then codes "~0" else (if b then codes "~1" else encode_utf8 c))
    by_tests true b x y = (λ e. omega arith, λ e. inl refl, (λ e. omega arith, λ e. absurd (omega arith), tt))
    by_tests false true x y = (λ e. omega arith, λ e. inr refl, (λ e. omega arith, λ e. absurd (omega arith), tt))
    by_tests false false x y = plain_token (encode_utf8 c) (avoids 47 c (omega arith) (eqb-false c 47 y)) (avoids 126 c (omega arith) (eqb-false c 126 x))

token_chars : (cs : List ℕ) → IsToken (escaped_chars cs)
token_chars [] = tt
token_chars (c ∷ cs) = token_append (escaped_char c) (escaped_chars cs) (token_char c) (token_chars cs)

pub token_name : (name : List ℕ) → IsToken (escaped name)
token_name name = token_chars (chars name)

glyph : (d : ℕ) → d < 10 → digit_glyph false d ≡ 48 + d
glyph d small = rw (lt-ltb d 10 small) refl

token_if : (b : Bool) (xs ys : List ℕ) → IsToken xs → IsToken ys → IsToken (if b then xs else ys)
token_if true xs ys x y = x
token_if false xs ys x y = y

token_digits : (k n : ℕ) (text : List ℕ) → IsToken text → IsToken (digits_onto k 10 false n text)
token_digits zero n text is = is
token_digits (suc k) n text is =
    let digit : digit_glyph false (n % 10) ≡ 48 + n % 10 = glyph (n % 10) (omega arith) in
    let longer = token_cons (digit_glyph false (n % 10)) text (λ e. omega arith) (λ e. omega arith) is in
    token_if (n / 10 == 0) _ _ longer (token_digits k (n / 10) (digit_glyph false (n % 10) ∷ text) longer)

pub token_index : (index : ℕ) → IsToken (decimal index)
unfolding digits
token_index index = token_digits 64 index [] tt

-- ---- decoding

replaced_step : (digit character c : ℕ) (text : List ℕ) → c ≢ 126 → replaced digit character (c ∷ text) ≡ c ∷ replaced digit character text
unfolding replaced
replaced_step digit character c [] other = refl
replaced_step digit character c (e ∷ text) other =
    ap (λ b. if b then character ∷ replaced digit character text else c ∷ replaced digit character (e ∷ text)) (and_left (c == 126) (e == digit) (ne_eqb c 126 other))

replaced_over : (digit character : ℕ) (xs text : List ℕ) → All (λ x. x ≢ 126) xs → replaced digit character (xs ++ text) ≡ xs ++ replaced digit character text
replaced_over digit character [] text none = refl
replaced_over digit character (c ∷ xs) text none =
    replaced_step digit character c (xs ++ text) (All-head (λ x. x ≢ 126) c xs none) ∙ ap (λ t. c ∷ t) (replaced_over digit character xs text (All-tail (λ x. x ≢ 126) c xs none))

-- a character once `~1` is replaced
abbrev between_char : ℕ → List ℕ
between_char c = if c == 126 then codes "~0" else encode_utf8 c

abbrev between_chars : List ℕ → List ℕ
between_chars [] = []
between_chars (c ∷ cs) = between_char c ++ between_chars cs

first_char : (c : ℕ) (text : List ℕ) → replaced 49 47 (escaped_char c ++ text) ≡ between_char c ++ replaced 49 47 text
unfolding replaced
first_char c text = by_tests (c == 126) (c == 47) refl refl
  where
    by_tests : (a b : Bool) → (c == 126) ≡ a → (c == 47) ≡ b → replaced 49 47 ((if a then codes "~0" else (if b then codes "~1" else encode_utf8 c)) ++ text) ≡ (if a then codes "~0" else encode_utf8 c) ++ replaced 49 47 text
    by_tests true b x y = ap (λ t. 126 ∷ t) (replaced_step 49 47 48 text (λ e. absurd (omega arith)))
    by_tests false true x y = ap (λ t. t ++ replaced 49 47 text) (sym (ap encode_utf8 (eqb-true c 47 y) ∙ encode_ascii 47 (omega arith)))
    by_tests false false x y = replaced_over 49 47 (encode_utf8 c) text (avoids 126 c (omega arith) (eqb-false c 126 x))

first_chars : (cs : List ℕ) → replaced 49 47 (escaped_chars cs) ≡ between_chars cs
unfolding replaced
first_chars [] = refl
first_chars (c ∷ cs) = first_char c (escaped_chars cs) ∙ ap (λ t. between_char c ++ t) (first_chars cs)

second_char : (c : ℕ) (text : List ℕ) → replaced 48 126 (between_char c ++ text) ≡ encode_utf8 c ++ replaced 48 126 text
unfolding replaced
second_char c text = by_test (c == 126) refl
  where
    by_test : (a : Bool) → (c == 126) ≡ a → replaced 48 126 ((if a then codes "~0" else encode_utf8 c) ++ text) ≡ encode_utf8 c ++ replaced 48 126 text
    by_test true x = ap (λ t. t ++ replaced 48 126 text) (sym (ap encode_utf8 (eqb-true c 126 x) ∙ encode_ascii 126 (omega arith)))
    by_test false x = replaced_over 48 126 (encode_utf8 c) text (avoids 126 c (omega arith) (eqb-false c 126 x))

second_chars : (cs : List ℕ) → replaced 48 126 (between_chars cs) ≡ encode_utf8_all cs
unfolding replaced
second_chars [] = refl
second_chars (c ∷ cs) = second_char c (between_chars cs) ∙ ap (λ t. encode_utf8 c ++ t) (second_chars cs)

-- the token of a name has its characters
pub decoded_name : (name : List ℕ) → decoded (escaped name) ≡ encode_utf8_all (chars name)
unfolding decoded
decoded_name name = ap (replaced 48 126) (first_chars (chars name)) ∙ second_chars (chars name)

-- and of one in ASCII is decoded to it
abbrev pub is_ascii : List ℕ → Bool
is_ascii name = list_all (λ c. nat_lt c 128) name

ascii_bytes : (name : List ℕ) → is_ascii name ≡ true → IsAscii name
ascii_bytes [] ascii i = omega arith
ascii_bytes (c ∷ name) ascii zero = ltb-true c 128 (and_parts _ _ ascii).0
ascii_bytes (c ∷ name) ascii (suc i) = ascii_bytes name (and_parts _ _ ascii).1 i

pub decoded_ascii : (name : List ℕ) → is_ascii name ≡ true → decoded (escaped name) ≡ name
decoded_ascii name ascii =
    let bytes = ascii_bytes name ascii in
    decoded_name name ∙ ap encode_utf8_all (chars-IsAscii name bytes) ∙ encodes-IsAscii name bytes
