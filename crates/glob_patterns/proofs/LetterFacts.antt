-- Characters as they are compared are as many, are cut at the same places, and are `*` and `?` where they were.
use Rattle.std.proofs.Common.{◌≡◌, ◌≢◌, ℕ, ◌<◌, Bool, List, [], ◌∷◌, ◌++◌, map, length, get_or, take, Option, None, Some, refl, ap, sym, ◌∙◌, subst, arith, lit<}
use Rattle.std.specs.Prelude.{MatchOption, ◌↔◌, IsTrue}
use Rattle.std.specs.Borrow.{Bor}
use Rattle.std.specs.Str.{chars, IsAscii, IsUtf8}
use Rattle.std.proofs.lemmas.Bool.Decides.{nat_tests}
use Rattle.std.proofs.lemmas.List.{length-map, map-append, map-id, take_at, length-append, get_or_at}
use Rattle.std.proofs.lemmas.List.Elements.{All-head, All-tail, All-nil, All-cons, All-from_get_or}
use Rattle.std.proofs.lemmas.Str.{chars-append, chars-IsAscii, encodes-chars, encode_ascii, IsUtf8-take, IsCharBoundary-before_ascii}
use lib.Utf8.{encode, encodes}
use Rattle.kms_names.specs.Glob.{Globs, lowercase_chars, star}
use Rattle.glob_patterns.specs.Fits.{HasNoStar}
use Rattle.glob_patterns.specs.Letters.{folded, letters, units_of, read_as}
use Rattle.glob_patterns.specs.declared.cases.Case.{Case}
use Rattle.glob_patterns.specs.declared.cases.Case.TheVariants.{Exact, AsciiIgnored}
use Rattle.glob_patterns.specs.declared.units.Units.{Units}

pub letters_long : (case : Case) (text : List ℕ) → length (letters case text) ≡ length (chars text)
letters_long case text = length-map (chars text) (folded case)

pub read_long : (case : Case) (units : Units) → length (read_as case units) ≡ length (units_of units)
read_long case units = length-map (units_of units) (folded case)

folded_star : (case : Case) → folded case star ≡ star
folded_star Exact = refl
folded_star AsciiIgnored = refl

star_folded : (case : Case) (c : ℕ) → folded case c ≡ star → c ≡ star
star_folded Exact c e = e
star_folded AsciiIgnored c e = star_lowered c e
  where
    star_lowered : (c : ℕ) → folded AsciiIgnored c ≡ star → c ≡ star
    star_lowered c e = grind (arith, nat_tests)

no_star_folded : (case : Case) (cs : List ℕ) → HasNoStar cs → HasNoStar (map (folded case) cs)
no_star_folded case [] none = All-nil (λ c. c ≢ star)
no_star_folded case (c ∷ cs) none =
    All-cons (λ d. d ≢ star) (folded case c) (map (folded case) cs)
    (λ e. All-head (λ d. d ≢ star) c cs none (star_folded case c e))
    (no_star_folded case cs (All-tail (λ d. d ≢ star) c cs none))

pub no_star : (case : Case) (text : List ℕ) → HasNoStar (chars text) → HasNoStar (letters case text)
no_star case text none = no_star_folded case (chars text) none

pub letters_cut : (case : Case) (text front rest : List ℕ) → chars text ≡ chars front ++ star ∷ chars rest → letters case text ≡ letters case front ++ star ∷ letters case rest
letters_cut case text front rest e =
    ap (map (folded case)) e
    ∙ map-append (folded case) (chars front) (star ∷ chars rest)
    ∙ ap (λ c. letters case front ++ c ∷ letters case rest) (folded_star case)

-- a text in whose bytes there is no `*` has none in its characters
behind : (xs ys : List ℕ) → HasNoStar (xs ++ ys) → HasNoStar ys
behind [] ys none = none
behind (x ∷ xs) ys none = behind xs ys (All-tail (λ c. c ≢ star) x (xs ++ ys) none)

no_star_encoded : (cs : List ℕ) → HasNoStar (encodes cs) → HasNoStar cs
no_star_encoded [] none = All-nil (λ c. c ≢ star)
no_star_encoded (c ∷ cs) none = All-cons (λ d. d ≢ star) c cs other (no_star_encoded cs (behind (encode c) (encodes cs) none))
  where
    other : c ≢ star
    other e =
        let spelled : encode c ≡ star ∷ [] = ap encode e ∙ encode_ascii star (lit< tt) in
        All-head (λ d. d ≢ star) star (encodes cs) (subst (λ bytes. HasNoStar (bytes ++ encodes cs)) spelled none) refl

no_star_chars : (text : List ℕ) → IsUtf8 text → HasNoStar text → HasNoStar (chars text)
no_star_chars text good none = no_star_encoded (chars text) (subst HasNoStar (sym (encodes-chars text good)) none)

star_chars : chars (star ∷ []) ≡ star ∷ []
unfolding chars
star_chars = refl

star_good : IsUtf8 (star ∷ [])
unfolding encode
star_good = (star ∷ [], (refl, refl))

-- a text that is cut at a `*`
module _ (text front rest : List ℕ) (good : IsUtf8 text) (cut : text ≡ front ++ star ∷ rest) where
  at_star : get_or text (length front) 0 ≡ star
  at_star = ap (λ t. get_or t (length front) 0) cut ∙ get_or_at front star rest 0 (length front) refl

  long : length front < length text
  long = omega (arith, ap length cut, length-append front (star ∷ rest))

  small : get_or text (length front) 0 < 128
  small = subst (λ n. n < 128) (sym at_star) (lit< tt)

  pub front_good : IsUtf8 front
  front_good =
      subst IsUtf8 (ap (take (length front)) cut ∙ take_at front (star ∷ rest) (length front) refl)
      (IsUtf8-take text (length front) good (IsCharBoundary-before_ascii text (length front) long small))

  pub chars_cut : chars text ≡ chars front ++ star ∷ chars rest
  chars_cut =
      ap chars cut
      ∙ chars-append front (star ∷ rest) front_good
      ∙ ap (λ cs. chars front ++ cs) (chars-append (star ∷ []) rest star_good ∙ ap (λ cs. cs ++ chars rest) star_chars)

by_places : (text : List ℕ) → ((i : ℕ) → i < length text → get_or text i 0 ≢ star) → HasNoStar text
by_places text none = All-from_get_or (λ c. c ≢ star) text 0 none

pub cut_chars : (text : List ℕ) → IsUtf8 text → (r : Option (Bor (List ℕ) × Bor (List ℕ)))
    → MatchOption r ((i : ℕ) → i < length text → get_or text i 0 ≢ star) (λ x. (text ≡ x.0.now ++ (star ∷ x.1.now)) × ((i : ℕ) → i < length x.0.now → get_or x.0.now i 0 ≢ star))
    → MatchOption r (HasNoStar (chars text)) (λ parts. HasNoStar (chars parts.0.now) × (chars text ≡ chars parts.0.now ++ star ∷ chars parts.1.now))
cut_chars text good None none = no_star_chars text good (by_places text none)
cut_chars text good (Some x) (cut, none) =
    (no_star_chars x.0.now (front_good text x.0.now x.1.now good cut) (by_places x.0.now none), chars_cut text x.0.now x.1.now good cut)

-- compared exactly, a text's characters are themselves
exact_letters : (text : List ℕ) → letters Exact text ≡ chars text
exact_letters text = map-id (chars text)

pub exact_answer : (p t : List ℕ) (b : Bool) → IsTrue b ↔ Globs (letters Exact p) (letters Exact t) → IsTrue b ↔ Globs (chars p) (chars t)
exact_answer p t b h =
    subst (λ (l : List ℕ). IsTrue b ↔ Globs l (chars t)) (exact_letters p) (subst (λ (l : List ℕ). IsTrue b ↔ Globs (letters Exact p) l) (exact_letters t) h)

pub answer_exact : (case : Case) (p t : List ℕ) (b : Bool) → case ≡ Exact → IsTrue b ↔ Globs (chars p) (chars t) → IsTrue b ↔ Globs (letters case p) (letters case t)
answer_exact case p t b is h =
    subst (λ k. IsTrue b ↔ Globs (letters k p) (letters k t)) (sym is)
    (subst (λ (l : List ℕ). IsTrue b ↔ Globs l (letters Exact t)) (sym (exact_letters p)) (subst (λ (l : List ℕ). IsTrue b ↔ Globs (chars p) l) (sym (exact_letters t)) h))

pub answer_nocase : (case : Case) (p t : List ℕ) (b : Bool) → case ≡ AsciiIgnored → IsTrue b ↔ Globs (lowercase_chars p) (lowercase_chars t)
    → IsTrue b ↔ Globs (letters case p) (letters case t)
answer_nocase case p t b is h = subst (λ k. IsTrue b ↔ Globs (letters k p) (letters k t)) (sym is) h

-- the bytes of an ASCII text are its characters
pub answer_ascii : (case : Case) (p t bytes : List ℕ) (b : Bool) → IsAscii t → bytes ≡ t → IsTrue b ↔ Globs (letters case p) (map (folded case) bytes)
    → IsTrue b ↔ Globs (letters case p) (letters case t)
answer_ascii case p t bytes b ascii is h =
    subst (λ (l : List ℕ). IsTrue b ↔ Globs (letters case p) (map (folded case) l)) (is ∙ sym (chars-IsAscii t ascii)) h
