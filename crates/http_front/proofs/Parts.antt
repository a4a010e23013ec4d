-- What stands between commas.
use Rattle.std.proofs.Common.{◌≡◌, ◌<◌, ◌≤◌, ◌+◌, ℕ, suc, List, [], ◌∷◌, length, take, drop, Bool, true, false, ◌||◌, Some, None, refl, sym, ap, ap₂, ◌∙◌, arith, cond, nat_lt}
use Rattle.std.proofs.lemmas.Bool.Decides.{nat_tests}
use Rattle.std.specs.List.{position, position_or_len, list_any}
use Rattle.http_front.specs.Judge.{is_comma, with_byte, parts_of, is_close, has_close}

abbrev Splits : List ℕ → ℕ → Type 0
Splits bytes n = parts_of bytes ≡ take n bytes ∷ parts_of (drop (suc n) bytes)

at_first : (byte : ℕ) (bytes : List ℕ) → is_comma byte ≡ true → (position_or_len is_comma (byte ∷ bytes) ≡ 0) × (parts_of (byte ∷ bytes) ≡ [] ∷ parts_of bytes)
at_first byte bytes is = rw is (refl, refl)

later : (byte : ℕ) (bytes : List ℕ) → is_comma byte ≡ false → (position_or_len is_comma (byte ∷ bytes) ≡ 1 + position_or_len is_comma bytes) × (parts_of (byte ∷ bytes) ≡ with_byte byte (parts_of bytes))
later byte bytes is = rw is (refl, refl)

splits_later : (byte : ℕ) (bytes : List ℕ) (n m : ℕ) → is_comma byte ≡ false → n ≡ 1 + m → Splits bytes m → Splits (byte ∷ bytes) n
splits_later byte bytes n m is at h =
    let next : n ≡ suc m = omega arith in
    (later byte bytes is).1 ∙ ap (with_byte byte) h ∙ ap (λ (k : ℕ). take k (byte ∷ bytes) ∷ parts_of (drop (suc k) (byte ∷ bytes))) (sym next)

splits_first : (byte : ℕ) (bytes : List ℕ) (b : Bool) → is_comma byte ≡ b → position_or_len is_comma (byte ∷ bytes) < length (byte ∷ bytes)
    → (position_or_len is_comma bytes < length bytes → Splits bytes (position_or_len is_comma bytes)) → Splits (byte ∷ bytes) (position_or_len is_comma (byte ∷ bytes))
splits_first byte bytes true is h rest = let first = at_first byte bytes is in first.1 ∙ ap (λ (k : ℕ). take k (byte ∷ bytes) ∷ parts_of (drop (suc k) (byte ∷ bytes))) (sym first.0)
splits_first byte bytes false is h rest =
    let next = (later byte bytes is).0 in
    splits_later byte bytes _ (position_or_len is_comma bytes) is next (rest (omega (arith, h, next)))

splits : (bytes : List ℕ) → position_or_len is_comma bytes < length bytes → Splits bytes (position_or_len is_comma bytes)
splits [] h = absurd (omega arith)
splits (byte ∷ bytes) h = splits_first byte bytes (is_comma byte) refl h (splits bytes)

whole_first : (byte : ℕ) (bytes : List ℕ) (b : Bool) → is_comma byte ≡ b → length (byte ∷ bytes) ≤ position_or_len is_comma (byte ∷ bytes)
    → (length bytes ≤ position_or_len is_comma bytes → parts_of bytes ≡ bytes ∷ []) → parts_of (byte ∷ bytes) ≡ (byte ∷ bytes) ∷ []
whole_first byte bytes true is h rest = absurd (omega (arith, h, (at_first byte bytes is).0))
whole_first byte bytes false is h rest = let next = later byte bytes is in next.1 ∙ ap (with_byte byte) (rest (omega (arith, h, next.0)))

whole : (bytes : List ℕ) → length bytes ≤ position_or_len is_comma bytes → parts_of bytes ≡ bytes ∷ []
whole [] h = refl
whole (byte ∷ bytes) h = whole_first byte bytes (is_comma byte) refl h (whole bytes)

abbrev first : List ℕ → ℕ
first bytes = position_or_len is_comma bytes

some_where : (bytes : List ℕ) (n : ℕ) (b : Bool) → nat_lt (first bytes) (length bytes) ≡ b → Some n ≡ cond b (Some (first bytes)) None
    → (n < length bytes) × (parts_of bytes ≡ take n bytes ∷ parts_of (drop (n + 1) bytes))
some_where bytes n true is e =
    let same : n ≡ first bytes = cc in
    let less : first bytes < length bytes = grind (arith, nat_tests, is) in
    let after : suc (first bytes) ≡ n + 1 = omega arith in
    (omega arith, splits bytes less ∙ ap₂ (λ (k j : ℕ). take k bytes ∷ parts_of (drop j bytes)) (sym same) after)
some_where bytes n false is e = cc

none_where : (bytes : List ℕ) (b : Bool) → nat_lt (first bytes) (length bytes) ≡ b → None ≡ cond b (Some (first bytes)) None → parts_of bytes ≡ bytes ∷ []
none_where bytes true is e = cc
none_where bytes false is e = whole bytes (grind (arith, nat_tests, is))

-- a comma that was found parts the bytes
pub some_comma : (bytes : List ℕ) (n : ℕ) → Some n ≡ position is_comma bytes → (n < length bytes) × (parts_of bytes ≡ take n bytes ∷ parts_of (drop (n + 1) bytes))
some_comma bytes n e = some_where bytes n (nat_lt (first bytes) (length bytes)) refl e

pub no_comma : (bytes : List ℕ) → None ≡ position is_comma bytes → parts_of bytes ≡ bytes ∷ []
no_comma bytes e = none_where bytes (nat_lt (first bytes) (length bytes)) refl e

-- `close` is in the first part, or in what follows it
pub close_split : (bytes : List ℕ) (n : ℕ) → Some n ≡ position is_comma bytes → has_close bytes ≡ (is_close (take n bytes) || has_close (drop (n + 1) bytes))
close_split bytes n e = ap (list_any is_close) (some_comma bytes n e).1

or_false : (b : Bool) → (b || false) ≡ b
or_false true = refl
or_false false = refl

pub close_whole : (bytes : List ℕ) → None ≡ position is_comma bytes → has_close bytes ≡ is_close bytes
close_whole bytes e = ap (list_any is_close) (no_comma bytes e) ∙ or_false (is_close bytes)

pub close_first : (bytes : List ℕ) (n : ℕ) → Some n ≡ position is_comma bytes → true ≡ is_close (take n bytes) → true ≡ has_close bytes
close_first bytes n e is = sym (close_split bytes n e ∙ ap (λ (b : Bool). b || has_close (drop (n + 1) bytes)) (sym is))

pub close_later : (bytes : List ℕ) (n : ℕ) → Some n ≡ position is_comma bytes → false ≡ is_close (take n bytes) → has_close (drop (n + 1) bytes) ≡ has_close bytes
close_later bytes n e is = sym (close_split bytes n e ∙ ap (λ (b : Bool). b || has_close (drop (n + 1) bytes)) (sym is))
