-- The strings of JSON tokens are UTF-8, where their text is.
use Rattle.std.proofs.Common.{◌≡◌, ℕ, ◌+◌, ◌-◌, ◌*◌, ◌<◌, Bool, true, false, cond, ◌&&◌, ◌||◌, List, [], ◌∷◌, ◌++◌, length, get_or, take, drop, Option, Some, None, nat_lt, IsUtf8, refl, sym, ap, ◌∙◌, subst, append_assoc, length-append, arith}
use Rattle.std.specs.Prelude.{◌==◌, ⊤}
use Rattle.std.specs.Char.{digit_value, is_digit, encode_utf8, IsScalar}
use Rattle.std.specs.Option.{option_and_then}
use Rattle.std.proofs.Math.Seq.{take-append_seam, drop-append_seam}
use Rattle.std.proofs.lemmas.Bool.{eqb-true, lt-ltb}
use Rattle.std.proofs.lemmas.Bool.Decides.{nat_tests}
use Rattle.std.proofs.lemmas.Str.{IsUtf8-nil, IsUtf8-append, IsUtf8-encode, IsUtf8-take, IsUtf8-drop, IsCharBoundary-before_ascii, IsCharBoundary-after_ascii}
use Rattle.json.proofs.Printed.Utf8.{IsUtf8-are_ascii}
use Rattle.json.specs.Token.{Token, begin_object, end_object, begin_array, end_array, key, string, number, boolean, null, bad}
use Rattle.json.specs.Text.{Within, content, plain, after_backslash, after_u, after_high, prepend, code_unit, short_escape, is_high_surrogate, is_low_surrogate, surrogate_pair}
use Rattle.json.specs.Word.{head, ends_word, after_number, number_before, is_operator, is_space, word}
use Rattle.json.specs.Lex.{Lexeme, token, comma, colon, Class, quote, backslash, operator, space, other, class, operator_lexeme, string_token, Mode, between, in_word, in_string, in_escape, lex_byte, lex}
use Rattle.json.specs.Lex.{Place, fresh, after_value, after_comma, after_key, begins_colon, may_begin, may_close, if_allowed, place_token, punctuate, tokens}

-- ---- a text is cut at an ASCII byte

seam : (front : List ℕ) (x : ℕ) (xs : List ℕ) (d : ℕ) → get_or (front ++ x ∷ xs) (length front) d ≡ x
seam [] x xs d = refl
seam (c ∷ front) x xs d = seam front x xs d

pub at_ascii : (front : List ℕ) (x : ℕ) (xs : List ℕ) → x < 128 → IsUtf8 (front ++ x ∷ xs) → IsUtf8 front × IsUtf8 xs
at_ascii front x xs small h =
    let whole : List ℕ = front ++ x ∷ xs in
    let within : length front < length whole = omega (arith, length-append front (x ∷ xs)) in
    let low : get_or whole (length front) 0 < 128 = subst (λ (c : ℕ). c < 128) (sym (seam front x xs 0)) small in
    let size : length front + 1 ≡ length (front ++ x ∷ []) = omega (arith, length-append front (x ∷ [])) in (
      subst IsUtf8 (take-append_seam front (x ∷ xs)) (IsUtf8-take whole (length front) h (IsCharBoundary-before_ascii whole (length front) within low)),
      subst IsUtf8 (ap (λ (n : ℕ). drop n whole) size ∙ ap (drop (length (front ++ x ∷ []))) (sym (append_assoc front (x ∷ []) xs)) ∙ drop-append_seam (front ++ x ∷ []) xs)
          (IsUtf8-drop whole (length front + 1) h (IsCharBoundary-after_ascii whole (length front) h within low)),
    )

strip : (x : ℕ) (xs : List ℕ) → x < 128 → IsUtf8 (x ∷ xs) → IsUtf8 xs
strip x xs small h = (at_ascii [] x xs small h).1

one_ascii : (x : ℕ) (xs : List ℕ) → x < 128 → IsUtf8 xs → IsUtf8 (x ∷ xs)
one_ascii x xs small h = IsUtf8-append (x ∷ []) xs (IsUtf8-are_ascii (x ∷ []) (rw (lt-ltb x 128 small))) h

-- ---- the content of a string

prepended : (bytes : List ℕ) (o : Option (List ℕ)) (s : List ℕ) → prepend bytes o ≡ Some s → (rest : List ℕ) × (o ≡ Some rest) × (bytes ++ rest ≡ s)
prepended bytes None s e = cc
prepended bytes (Some rest) s e = (rest, refl, cc)

-- what stands behind is UTF-8, whatever of a character stood before
abbrev Continues : List ℕ → Type 0
Continues xs = (front s : List ℕ) → IsUtf8 (front ++ xs) → content plain xs ≡ Some s → IsUtf8 (front ++ s)

abbrev Reads : Within → List ℕ → Type 0
Reads w xs = (s : List ℕ) → IsUtf8 xs → content w xs ≡ Some s → IsUtf8 s

with_front : (x : ℕ) (xs : List ℕ) → Continues xs → (front s : List ℕ) → IsUtf8 (front ++ x ∷ xs) → prepend (x ∷ []) (content plain xs) ≡ Some s → IsUtf8 (front ++ s)
with_front x xs later front s h e =
    let parts = prepended (x ∷ []) (content plain xs) s e in
    subst (λ (t : List ℕ). IsUtf8 (front ++ t)) parts.2
    (subst IsUtf8 (append_assoc front (x ∷ []) parts.0) (later (front ++ x ∷ []) parts.0 (subst IsUtf8 (sym (append_assoc front (x ∷ []) xs)) h) parts.1))

plain_step : (x : ℕ) (xs : List ℕ) → Continues xs → Reads after_backslash xs → (front s : List ℕ) → IsUtf8 (front ++ x ∷ xs) → (q b c : Bool) → (x == 34) ≡ q → (x == 92) ≡ b
    → cond q (Some []) (cond b (content after_backslash xs) (cond c None (prepend (x ∷ []) (content plain xs)))) ≡ Some s → IsUtf8 (front ++ s)
plain_step x xs later escaped front s h true b c is_quote is_back e =
    let small : x < 128 = let is = eqb-true x 34 is_quote in omega (arith, is) in
    let none : [] ≡ s = cc in
    IsUtf8-append front s (at_ascii front x xs small h).0 (subst IsUtf8 none IsUtf8-nil)
plain_step x xs later escaped front s h false true c is_quote is_back e =
    let small : x < 128 = let is = eqb-true x 92 is_back in omega (arith, is) in
    let parts = at_ascii front x xs small h in
    IsUtf8-append front s parts.0 (escaped s parts.1 e)
plain_step x xs later escaped front s h false false true is_quote is_back e = cc
plain_step x xs later escaped front s h false false false is_quote is_back e = with_front x xs later front s h e

-- an escape of one letter stands for an ASCII byte
escape_by : (p b f n r t : Bool) (x c : ℕ) → (p ≡ true → x < 128) → (b ≡ true → x < 128) → (f ≡ true → x < 128) → (n ≡ true → x < 128) → (r ≡ true → x < 128) → (t ≡ true → x < 128)
    → cond p (Some x) (cond b (Some 8) (cond f (Some 12) (cond n (Some 10) (cond r (Some 13) (cond t (Some 9) None))))) ≡ Some c → (x < 128) × (c < 128)
escape_by true b f n r t x c hp hb hf hn hr ht e = let is : x ≡ c = cc in (hp refl, subst (λ (k : ℕ). k < 128) is (hp refl))
escape_by false true f n r t x c hp hb hf hn hr ht e = let is : 8 ≡ c = cc in (hb refl, omega (arith, is))
escape_by false false true n r t x c hp hb hf hn hr ht e = let is : 12 ≡ c = cc in (hf refl, omega (arith, is))
escape_by false false false true r t x c hp hb hf hn hr ht e = let is : 10 ≡ c = cc in (hn refl, omega (arith, is))
escape_by false false false false true t x c hp hb hf hn hr ht e = let is : 13 ≡ c = cc in (hr refl, omega (arith, is))
escape_by false false false false false true x c hp hb hf hn hr ht e = let is : 9 ≡ c = cc in (ht refl, omega (arith, is))
escape_by false false false false false false x c hp hb hf hn hr ht e = cc

escape_small : (x c : ℕ) → short_escape x ≡ Some c → (x < 128) × (c < 128)
unfolding short_escape
escape_small x c e =
    escape_by ((x == 34) || (x == 92) || (x == 47)) (x == 98) (x == 102) (x == 110) (x == 114) (x == 116) x c
    (λ is. grind (arith, nat_tests, is)) (λ is. grind (arith, nat_tests, is)) (λ is. grind (arith, nat_tests, is)) (λ is. grind (arith, nat_tests, is)) (λ is. grind (arith, nat_tests, is)) (λ is. grind (arith, nat_tests, is)) e

short_step : (x : ℕ) (xs : List ℕ) → Continues xs → (s : List ℕ) → IsUtf8 (x ∷ xs) → (o : Option ℕ) → short_escape x ≡ o → option_and_then (λ c. prepend (c ∷ []) (content plain xs)) o ≡ Some s → IsUtf8 s
short_step x xs later s h None is e = cc
short_step x xs later s h (Some c) is e =
    let small = escape_small x c is in
    with_front c xs later [] s (one_ascii c xs small.1 (strip x xs small.0 h)) e

backslash_step : (x : ℕ) (xs : List ℕ) → Continues xs → Reads after_u xs → (s : List ℕ) → IsUtf8 (x ∷ xs) → (u : Bool) → (x == 117) ≡ u
    → cond u (content after_u xs) (option_and_then (λ c. prepend (c ∷ []) (content plain xs)) (short_escape x)) ≡ Some s → IsUtf8 s
backslash_step x xs later unit s h true is e = unit s (strip x xs (let same = eqb-true x 117 is in omega (arith, same)) h) e
backslash_step x xs later unit s h false is e = short_step x xs later s h (short_escape x) refl e

hex_small : (c : ℕ) → is_digit c 16 ≡ true → c < 128
hex_small c e = grind (arith, nat_tests, e)

hex_low : (c : ℕ) → is_digit c 16 ≡ true → digit_value c < 16
hex_low c e = grind (arith, nat_tests, e)

record IsUnit (a b c d u : ℕ) : Type 0 where
  first : a < 128
  second : b < 128
  third : c < 128
  fourth : d < 128
  low : u < 65536

unit_by : (a b c d u : ℕ) (p q r t : Bool) → is_digit a 16 ≡ p → is_digit b 16 ≡ q → is_digit c 16 ≡ r → is_digit d 16 ≡ t
    → cond (p && q && r && t) (Some (digit_value a * 4096 + digit_value b * 256 + digit_value c * 16 + digit_value d)) None ≡ Some u → IsUnit a b c d u
unit_by a b c d u true true true true ea eb ec ed e =
    let is : digit_value a * 4096 + digit_value b * 256 + digit_value c * 16 + digit_value d ≡ u = cc in
    let la = hex_low a ea in
    let lb = hex_low b eb in
    let lc = hex_low c ec in
    let ld = hex_low d ed in
    record { first = hex_small a ea; second = hex_small b eb; third = hex_small c ec; fourth = hex_small d ed; low = omega (arith, is, la, lb, lc, ld) }
unit_by a b c d u false q r t ea eb ec ed e = cc
unit_by a b c d u true false r t ea eb ec ed e = cc
unit_by a b c d u true true false t ea eb ec ed e = cc
unit_by a b c d u true true true false ea eb ec ed e = cc

unit_is : (a b c d u : ℕ) → code_unit a b c d ≡ Some u → IsUnit a b c d u
unfolding code_unit
unit_is a b c d u e = unit_by a b c d u (is_digit a 16) (is_digit b 16) (is_digit c 16) (is_digit d 16) refl refl refl refl e

-- four hex digits are stripped
stripped : (a b c d u : ℕ) (xs : List ℕ) → IsUnit a b c d u → IsUtf8 (a ∷ b ∷ c ∷ d ∷ xs) → IsUtf8 xs
stripped a b c d u xs is h = strip d xs is.fourth (strip c (d ∷ xs) is.third (strip b (c ∷ d ∷ xs) is.second (strip a (b ∷ c ∷ d ∷ xs) is.first h)))

encoded : (u : ℕ) → IsScalar u → IsUtf8 (encode_utf8 u)
unfolding encode_utf8
encoded u is = IsUtf8-encode u is

with_char : (u : ℕ) (xs : List ℕ) → IsScalar u → Continues xs → (s : List ℕ) → IsUtf8 xs → prepend (encode_utf8 u) (content plain xs) ≡ Some s → IsUtf8 s
with_char u xs is later s h e =
    let parts = prepended (encode_utf8 u) (content plain xs) s e in
    subst IsUtf8 parts.2 (IsUtf8-append (encode_utf8 u) parts.0 (encoded u is) (later [] parts.0 h parts.1))

no_surrogate : (u : ℕ) → u < 65536 → is_high_surrogate u ≡ false → is_low_surrogate u ≡ false → IsScalar u
no_surrogate u small high low = grind (arith, nat_tests, high, low)

unit_step : (xs : List ℕ) → Continues xs → ((high : ℕ) → is_high_surrogate high ≡ true → Reads (after_high high) xs) → (s : List ℕ) → (a b c d : ℕ) → IsUtf8 (a ∷ b ∷ c ∷ d ∷ xs)
    → (o : Option ℕ) → code_unit a b c d ≡ o → option_and_then (λ u. cond (is_high_surrogate u) (content (after_high u) xs) (cond (is_low_surrogate u) None (prepend (encode_utf8 u) (content plain xs)))) o ≡ Some s → IsUtf8 s
unit_step xs later high s a b c d h None is e = cc
unit_step xs later high s a b c d h (Some u) is e = by_tests (is_high_surrogate u) (is_low_surrogate u) refl refl e
  where
    unit : IsUnit a b c d u
    unit = unit_is a b c d u is

    by_tests : (p q : Bool) → is_high_surrogate u ≡ p → is_low_surrogate u ≡ q → cond p (content (after_high u) xs) (cond q None (prepend (encode_utf8 u) (content plain xs))) ≡ Some s → IsUtf8 s
    by_tests true q is_high is_low e = high u is_high s (stripped a b c d u xs unit h) e
    by_tests false true is_high is_low e = cc
    by_tests false false is_high is_low e = with_char u xs (no_surrogate u unit.low is_high is_low) later s (stripped a b c d u xs unit h) e

paired : (high low : ℕ) → is_high_surrogate high ≡ true → is_low_surrogate low ≡ true → IsScalar (surrogate_pair high low)
paired high low is_high is_low = grind (arith, nat_tests, is_high, is_low)

pair_step : (high : ℕ) → is_high_surrogate high ≡ true → (xs : List ℕ) → Continues xs → (s : List ℕ) → (m u a b c d : ℕ) → IsUtf8 (m ∷ u ∷ a ∷ b ∷ c ∷ d ∷ xs) → (p q : Bool) → (m == 92) ≡ p → (u == 117) ≡ q
    → (o : Option ℕ) → code_unit a b c d ≡ o
    → cond (p && q) (option_and_then (λ l. cond (is_low_surrogate l) (prepend (encode_utf8 (surrogate_pair high l)) (content plain xs)) None) o) None ≡ Some s → IsUtf8 s
pair_step high is_high xs later s m u a b c d h false q is_back is_u o is e = cc
pair_step high is_high xs later s m u a b c d h true false is_back is_u o is e = cc
pair_step high is_high xs later s m u a b c d h true true is_back is_u None is e = cc
pair_step high is_high xs later s m u a b c d h true true is_back is_u (Some low) is e = by_test (is_low_surrogate low) refl e
  where
    rest : IsUtf8 xs
    rest =
        stripped a b c d low xs (unit_is a b c d low is)
        (strip u (a ∷ b ∷ c ∷ d ∷ xs) (let same = eqb-true u 117 is_u in omega (arith, same)) (strip m (u ∷ a ∷ b ∷ c ∷ d ∷ xs) (let same = eqb-true m 92 is_back in omega (arith, same)) h))

    by_test : (t : Bool) → is_low_surrogate low ≡ t → cond t (prepend (encode_utf8 (surrogate_pair high low)) (content plain xs)) None ≡ Some s → IsUtf8 s
    by_test true is_low e = with_char (surrogate_pair high low) xs (paired high low is_high is_low) later s rest e
    by_test false is_low e = cc

mutual
  unfolding content

  continues : (xs : List ℕ) → Continues xs
  continues [] front s h e = cc
  continues (x ∷ xs) front s h e = plain_step x xs (continues xs) (after_back xs) front s h (x == 34) (x == 92) (nat_lt x 32) refl refl e

  after_back : (xs : List ℕ) → Reads after_backslash xs
  after_back [] s h e = cc
  after_back (x ∷ xs) s h e = backslash_step x xs (continues xs) (after_unit xs) s h (x == 117) refl e

  after_unit : (xs : List ℕ) → Reads after_u xs
  after_unit [] s h e = cc
  after_unit (a ∷ []) s h e = cc
  after_unit (a ∷ b ∷ []) s h e = cc
  after_unit (a ∷ b ∷ c ∷ []) s h e = cc
  after_unit (a ∷ b ∷ c ∷ d ∷ xs) s h e = unit_step xs (continues xs) (λ high is. after_pair high is xs) s a b c d h (code_unit a b c d) refl e

  after_pair : (high : ℕ) → is_high_surrogate high ≡ true → (xs : List ℕ) → Reads (after_high high) xs
  after_pair high is [] s h e = cc
  after_pair high is (m ∷ []) s h e = cc
  after_pair high is (m ∷ u ∷ []) s h e = cc
  after_pair high is (m ∷ u ∷ a ∷ []) s h e = cc
  after_pair high is (m ∷ u ∷ a ∷ b ∷ []) s h e = cc
  after_pair high is (m ∷ u ∷ a ∷ b ∷ c ∷ []) s h e = cc
  after_pair high is (m ∷ u ∷ a ∷ b ∷ c ∷ d ∷ xs) s h e = pair_step high is xs (continues xs) s m u a b c d h (m == 92) (u == 117) refl refl (code_unit a b c d) refl e

-- ---- tokens

abbrev pub IsText : Token → Type 0
IsText (key s) = IsUtf8 s
IsText (string s) = IsUtf8 s
IsText _ = ⊤

abbrev pub AreTexts : List Token → Type 0
AreTexts [] = ⊤
AreTexts (t ∷ ts) = IsText t × AreTexts ts

one_of : (b : Bool) (x y : Token) → IsText x → IsText y → IsText (cond b x y)
one_of true x y p q = p
one_of false x y p q = q

cut : (t : List ℕ) (o : Option (List ℕ)) → IsText (number_before t o)
cut t None = tt
cut t (Some r) = one_of (ends_word r) (number (take (length t - length r) t)) bad tt tt

word_text : (t : List ℕ) → IsText (word t)
unfolding word
word_text t =
    one_of (head t == 116) _ _ (one_of _ (boolean true) bad tt tt) (one_of (head t == 102) _ _ (one_of _ (boolean false) bad tt tt)
    (one_of (head t == 110) _ _ (one_of _ null bad tt tt) (cut t (after_number t))))

abbrev IsLexeme : Lexeme → Type 0
IsLexeme (token t) = IsText t
IsLexeme comma = ⊤
IsLexeme colon = ⊤

abbrev AreLexemes : List Lexeme → Type 0
AreLexemes [] = ⊤
AreLexemes (l ∷ ls) = IsLexeme l × AreLexemes ls

mark : (b : Bool) (x y : Lexeme) → IsLexeme x → IsLexeme y → IsLexeme (cond b x y)
mark true x y p q = p
mark false x y p q = q

marks : (x : ℕ) → IsLexeme (operator_lexeme x)
marks x =
    mark (x == 123) (token begin_object) _ tt (mark (x == 125) (token end_object) _ tt (mark (x == 91) (token begin_array) _ tt (mark (x == 93) (token end_array) _ tt (mark (x == 44) comma colon tt tt))))

no_quote : (a b c : Bool) → cond a backslash (cond b operator (cond c space other)) ≡ quote → ⊥
no_quote true b c e = cc
no_quote false true c e = cc
no_quote false false true e = cc
no_quote false false false e = cc

quote_is : (x : ℕ) → class x ≡ quote → x ≡ 34
quote_is x e = by_test (x == 34) refl e
  where
    by_test : (b : Bool) → (x == 34) ≡ b → cond b quote (cond (x == 92) backslash (cond (is_operator x) operator (cond (is_space x) space other))) ≡ quote → x ≡ 34
    by_test true is e = eqb-true x 34 is
    by_test false is e = absurd (no_quote (x == 92) (is_operator x) (is_space x) e)

string_text : (xs : List ℕ) → IsUtf8 xs → (o : Option (List ℕ)) → content plain xs ≡ o → IsText (string_token o)
string_text xs h None is = tt
string_text xs h (Some s) is = continues xs [] s h is

byte : (m : Mode) (c : Class) (front : List ℕ) (x : ℕ) (xs : List ℕ) (k : Mode → List Lexeme) → class x ≡ c → IsUtf8 (front ++ x ∷ xs) → ((n : Mode) → AreLexemes (k n)) → AreLexemes (lex_byte m c x xs k)
byte between quote front x xs k is u h =
    let small : x < 128 = let same = quote_is x is in omega (arith, same) in
    (string_text xs (at_ascii front x xs small u).1 (content plain xs) refl, h in_string)
byte between backslash front x xs k is u h = (tt, h in_word)
byte between operator front x xs k is u h = (marks x, h between)
byte between space front x xs k is u h = h between
byte between other front x xs k is u h = (word_text (x ∷ xs), h in_word)
byte in_word quote front x xs k is u h = h in_word
byte in_word backslash front x xs k is u h = h in_word
byte in_word operator front x xs k is u h = (marks x, h between)
byte in_word space front x xs k is u h = h between
byte in_word other front x xs k is u h = h in_word
byte in_string quote front x xs k is u h = h between
byte in_string backslash front x xs k is u h = h in_escape
byte in_string operator front x xs k is u h = h in_string
byte in_string space front x xs k is u h = h in_string
byte in_string other front x xs k is u h = h in_string
byte in_escape c front x xs k is u h = h in_string

lexed : (xs front : List ℕ) → IsUtf8 (front ++ xs) → (m : Mode) → AreLexemes (lex m xs)
unfolding lex
lexed [] front u m = tt
lexed (x ∷ xs) front u m = byte m (class x) front x xs (λ n. lex n xs) refl u (lexed xs (front ++ x ∷ []) (subst IsUtf8 (sym (append_assoc front (x ∷ []) xs)) u))

allowed : (b : Bool) (t : Token) (k : Place → List Token) (next : Place) → IsText t → AreTexts (k next) → AreTexts (if_allowed b t k next)
allowed true t k next p q = (p, q)
allowed false t k next p q = (tt, tt)

placed : (p : Place) (t : Token) (b : Bool) (k : Place → List Token) → IsText t → ((n : Place) → AreTexts (k n)) → AreTexts (place_token p t b k)
placed p begin_object b k q h = allowed (may_begin p) begin_object k fresh q (h fresh)
placed p end_object b k q h = allowed (may_close p) end_object k after_value q (h after_value)
placed p begin_array b k q h = allowed (may_begin p) begin_array k fresh q (h fresh)
placed p end_array b k q h = allowed (may_close p) end_array k after_value q (h after_value)
placed p (key s) b k q h = (tt, tt)
placed p (string s) true k q h = allowed (may_begin p) (key s) k after_key q (h after_key)
placed p (string s) false k q h = allowed (may_begin p) (string s) k after_value q (h after_value)
placed p (number s) b k q h = allowed (may_begin p) (number s) k after_value q (h after_value)
placed p (boolean v) b k q h = allowed (may_begin p) (boolean v) k after_value q (h after_value)
placed p null b k q h = allowed (may_begin p) null k after_value q (h after_value)
placed p bad b k q h = (tt, tt)

punctuated : (ls : List Lexeme) → AreLexemes ls → (p : Place) → AreTexts (punctuate p ls)
unfolding punctuate
punctuated [] h fresh = tt
punctuated [] h after_value = tt
punctuated [] h after_comma = (tt, tt)
punctuated [] h after_key = (tt, tt)
punctuated (token t ∷ ls) h p = placed p t (begins_colon ls) (λ n. punctuate n ls) h.0 (punctuated ls h.1)
punctuated (comma ∷ ls) h fresh = (tt, tt)
punctuated (comma ∷ ls) h after_value = punctuated ls h.1 after_comma
punctuated (comma ∷ ls) h after_comma = (tt, tt)
punctuated (comma ∷ ls) h after_key = (tt, tt)
punctuated (colon ∷ ls) h fresh = (tt, tt)
punctuated (colon ∷ ls) h after_value = (tt, tt)
punctuated (colon ∷ ls) h after_comma = (tt, tt)
punctuated (colon ∷ ls) h after_key = punctuated ls h.1 fresh

pub tokens_are_texts : (text : List ℕ) → IsUtf8 text → AreTexts (tokens text)
tokens_are_texts text u = punctuated (lex between text) (lexed text [] u between) fresh
