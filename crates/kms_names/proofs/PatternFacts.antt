-- Patterns of plain characters, and those with one `*` behind them.
use Rattle.std.proofs.Common.{◌≡◌, ◌≢◌, inl, inr, ℕ, Bool, true, false, not, ◌||◌, ◌==◌, List, [], ◌∷◌, ◌++◌, ◌<◌, refl, sym, ◌∙◌, ap, subst, append-nil, lit<}
use Rattle.std.specs.Prelude.{◌↔◌, IsTrue, Option, None, Some, MatchOption, is_some}
use Rattle.std.specs.Borrow.{Bor}
use Rattle.std.specs.Str.{bytes_eq}
use Rattle.std.proofs.lemmas.Slice.Eq.{bytes_eq-Decides}
use Rattle.std.specs.List.{AllPass}
use Rattle.std.specs.Str.{chars, IsUtf8}
use Rattle.std.proofs.lemmas.Bool.{eq-eqb, eqb-true}
use Rattle.std.proofs.lemmas.List.Elements.{All-head, All-tail, All-nil, All-cons}
use Rattle.std.proofs.lemmas.Str.{chars-append, encodes-append, encodes-chars, encode_ascii}
use lib.Utf8.{encode, encodes}
use Rattle.kms_names.specs.Glob.{Globs, star, question_mark, is_plain}

no_star : (c : ℕ) → is_plain c ≡ true → c ≢ star
no_star c plain e = let stands : (c == star) ≡ true = eq-eqb c star e in let bad : is_plain c ≡ false = ap (λ b. not (b || (c == question_mark))) stands in cc

no_question : (c : ℕ) → is_plain c ≡ true → c ≢ question_mark
no_question c plain e = both (c == star) (c == question_mark) (eq-eqb c question_mark e) plain
  where
    both : (s q : Bool) → q ≡ true → not (s || q) ≡ true → ⊥
    both true q stands none = cc
    both false q stands none = let bad : false ≡ true = ap not (sym stands) ∙ none in cc

first_plain : (c : ℕ) (p : List ℕ) → AllPass is_plain (c ∷ p) → is_plain c ≡ true
first_plain c p all = All-head (λ x. is_plain x ≡ true) c p all

-- a plain character matches itself alone
step : (c : ℕ) (p t : List ℕ) → is_plain c ≡ true → Globs (c ∷ p) t → (rest : List ℕ) × (t ≡ c ∷ rest) × Globs p rest
step c p t plain (inl (run, rest, is, at, more)) = absurd (no_star c plain is)
step c p t plain (inr (inl (one, rest, is, at, more))) = absurd (no_question c plain is)
step c p t plain (inr (inr (rest, at, more))) = (rest, at, more)

pub only_itself : (p t : List ℕ) → AllPass is_plain p → Globs p t → t ≡ p
only_itself [] t plain h = h
only_itself (c ∷ p) t plain h =
    let s = step c p t (first_plain c p plain) h in
    s.1 ∙ ap (λ x. c ∷ x) (only_itself p s.0 (All-tail (λ x. is_plain x ≡ true) c p plain) s.2)

pub itself : (p : List ℕ) → Globs p p
itself [] = refl
itself (c ∷ p) = inr (inr (p, refl, itself p))

pub only_behind : (p t : List ℕ) → AllPass is_plain p → Globs (p ++ star ∷ []) t → (rest : List ℕ) × (t ≡ p ++ rest)
only_behind [] t plain h = (t, refl)
only_behind (c ∷ p) t plain h =
    let s = step c (p ++ star ∷ []) t (first_plain c p plain) h in
    let r = only_behind p s.0 (All-tail (λ x. is_plain x ≡ true) c p plain) s.2 in
    (r.0, s.1 ∙ ap (λ x. c ∷ x) r.1)

pub behind : (p rest : List ℕ) → Globs (p ++ star ∷ []) (p ++ rest)
behind [] rest = inl (rest, [], refl, sym (append-nil rest), refl)
behind (c ∷ p) rest = inr (inr (p ++ rest, refl, behind p rest))

plain_behind : (xs ys : List ℕ) → AllPass is_plain (xs ++ ys) → AllPass is_plain ys
plain_behind [] ys all = all
plain_behind (x ∷ xs) ys all = plain_behind xs ys (All-tail (λ c. is_plain c ≡ true) x (xs ++ ys) all)

-- a plain text has plain characters, since each of the two is one byte
plain_encodes : (cs : List ℕ) → AllPass is_plain (encodes cs) → AllPass is_plain cs
plain_encodes [] all = All-nil (λ c. is_plain c ≡ true)
plain_encodes (c ∷ cs) all = All-cons (λ x. is_plain x ≡ true) c cs (first (is_plain c) refl) (plain_encodes cs (plain_behind (encode c) (encodes cs) all))
  where
    byte : (d : ℕ) → d < 128 → c ≡ d → is_plain d ≡ true
    byte d small same =
        let spelled : encode c ≡ d ∷ [] = ap encode same ∙ encode_ascii d small in
        first_plain d (encodes cs) (subst (λ x. AllPass is_plain (x ++ encodes cs)) spelled all)

    first : (b : Bool) → is_plain c ≡ b → is_plain c ≡ true
    first true is = is
    first false is = by_cases (c == star) (c == question_mark) (eqb-true c star) (eqb-true c question_mark) is
      where
        by_cases : (s q : Bool) → (s ≡ true → c ≡ star) → (q ≡ true → c ≡ question_mark) → not (s || q) ≡ false → is_plain c ≡ true
        by_cases true q is_star is_question none = absurd (let bad : false ≡ true = byte star (lit< tt) (is_star refl) in cc)
        by_cases false true is_star is_question none = absurd (let bad : false ≡ true = byte question_mark (lit< tt) (is_question refl) in cc)
        by_cases false false is_star is_question none = absurd (let bad : true ≡ false = none in cc)

plain_chars : (text : List ℕ) → IsUtf8 text → AllPass is_plain text → AllPass is_plain (chars text)
plain_chars text good plain = plain_encodes (chars text) (subst (AllPass is_plain) (sym (encodes-chars text good)) plain)

star_chars : chars (star ∷ []) ≡ star ∷ []
unfolding chars
star_chars = refl

pub anything : (text : List ℕ) → Globs (chars (star ∷ [])) (chars text)
anything text = rw star_chars (inl (chars text, [], refl, sym (append-nil (chars text)), refl))

module _ (pattern text : List ℕ) (good : IsUtf8 pattern) (plain_bytes : AllPass is_plain pattern) where
  plain : AllPass is_plain (chars pattern)
  plain = plain_chars pattern good plain_bytes

  pub exactly : IsUtf8 text → Globs (chars pattern) (chars text) ↔ (text ≡ pattern)
  exactly also = (
    λ h. sym (encodes-chars text also) ∙ (ap encodes (only_itself (chars pattern) (chars text) plain h) ∙ encodes-chars pattern good),
    λ e. rw e (itself (chars pattern)),
  )

  spelled : chars (pattern ++ star ∷ []) ≡ chars pattern ++ star ∷ []
  spelled = chars-append pattern (star ∷ []) good ∙ ap (λ x. chars pattern ++ x) star_chars

  pub begins : IsUtf8 text → Globs (chars (pattern ++ star ∷ [])) (chars text) ↔ ((rest : List ℕ) × (text ≡ pattern ++ rest))
  begins also = (
    λ h. let r = only_behind (chars pattern) (chars text) plain (rw spelled at h) in
        (encodes r.0, sym (encodes-chars text also) ∙ (ap encodes r.1 ∙ (encodes-append (chars pattern) r.0 ∙ ap (λ x. x ++ encodes r.0) (encodes-chars pattern good)))),
    λ r. rw spelled (rw r.1 (rw (chars-append pattern r.0 good) (behind (chars pattern) (chars r.0)))),
  )

  pub exact_eq : IsUtf8 text → (r : Bool) → r ≡ bytes_eq text pattern → IsTrue r ↔ Globs (chars pattern) (chars text)
  exact_eq also r e = (
    λ t. (exactly also).1 ((bytes_eq-Decides text pattern).0 (sym e ∙ t)),
    λ g. e ∙ (bytes_eq-Decides text pattern).1 ((exactly also).0 g),
  )

  pub begins_some : IsUtf8 text → (o : Option (Bor (List ℕ))) → MatchOption o ((rest : List ℕ) → text ≢ pattern ++ rest) (λ rest. text ≡ pattern ++ rest.now)
      → (r : Bool) → r ≡ is_some o → IsTrue r ↔ Globs (chars (pattern ++ star ∷ [])) (chars text)
  begins_some also None none r e = (λ t. let bad : false ≡ true = sym e ∙ t in cc, λ g. let b = (begins also).0 g in absurd (none b.0 b.1))
  begins_some also (Some rest) some r e = (λ t. (begins also).1 (rest.now, some), λ g. e)
