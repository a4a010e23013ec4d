-- Texts cut at a mark, and fronts of texts.
use Rattle.std.proofs.Common.{◌≡◌, ◌⊎◌, inl, inr, ◌<◌, ◌≤◌, ◌+◌, ℕ, List, [], ◌∷◌, length, take, drop, Bool, true, false, Some, None, refl, sym, ap, ◌∙◌, arith, cond, nat_lt, nat_eq, eqb}
use Rattle.std.proofs.lemmas.Bool.Decides.{nat_tests}
use Rattle.std.proofs.lemmas.List.Splits.{slice_split_first, slice_split-cons_no, slice_split-cons_yes, length-slice_split}
use Rattle.std.specs.List.{position, position_or_len, onto_first}
use Rattle.std.specs.Cmp.Lexicographic.{pointwise}
use Rattle.kms_names.specs.Reading.{after_front}
use Rattle.sigv4_check.specs.Parts.{is_byte, parts_at}

module _ (mark : ℕ) where
  abbrev first : List ℕ → ℕ
  first text = position_or_len (is_byte mark) text

  -- no part ends where no mark stands
  first_is : (byte : ℕ) (text : List ℕ) → is_byte mark byte ≡ true → first (byte ∷ text) ≡ 0
  first_is byte text is = rw is refl

  later_is : (byte : ℕ) (text : List ℕ) → is_byte mark byte ≡ false → first (byte ∷ text) ≡ 1 + first text
  later_is byte text is = rw is refl

  whole_first : (byte : ℕ) (text : List ℕ) (b : Bool) → is_byte mark byte ≡ b → length (byte ∷ text) ≤ first (byte ∷ text)
      → (length text ≤ first text → parts_at mark text ≡ text ∷ []) → parts_at mark (byte ∷ text) ≡ (byte ∷ text) ∷ []
  whole_first byte text true is h rest = absurd (omega (arith, h, first_is byte text is))
  whole_first byte text false is h rest =
      slice_split-cons_no (is_byte mark) byte text is ∙ ap (onto_first byte) (rest (omega (arith, h, later_is byte text is)))

  whole : (text : List ℕ) → length text ≤ first text → parts_at mark text ≡ text ∷ []
  whole [] h = refl
  whole (byte ∷ text) h = whole_first byte text (is_byte mark byte) refl h (whole text)

  some_where : (text : List ℕ) (n : ℕ) (b : Bool) → nat_lt (first text) (length text) ≡ b → Some n ≡ cond b (Some (first text)) None
      → (n < length text) × (parts_at mark text ≡ take n text ∷ parts_at mark (drop (n + 1) text))
  some_where text n true is e =
      let same : n ≡ first text = cc in
      let less : first text < length text = grind (arith, nat_tests, is) in
      (omega arith, slice_split_first (is_byte mark) text 0 less ∙ ap (λ (k : ℕ). take k text ∷ parts_at mark (drop (k + 1) text)) (sym same))
  some_where text n false is e = cc

  none_where : (text : List ℕ) (b : Bool) → nat_lt (first text) (length text) ≡ b → None ≡ cond b (Some (first text)) None → parts_at mark text ≡ text ∷ []
  none_where text true is e = cc
  none_where text false is e = whole text (grind (arith, nat_tests, is))

  -- a mark that was found parts the text
  pub some_mark : (text : List ℕ) (n : ℕ) → Some n ≡ position (is_byte mark) text → (n < length text) × (parts_at mark text ≡ take n text ∷ parts_at mark (drop (n + 1) text))
  some_mark text n e = some_where text n (nat_lt (first text) (length text)) refl e

  pub no_mark : (text : List ℕ) → None ≡ position (is_byte mark) text → parts_at mark text ≡ text ∷ []
  no_mark text e = none_where text (nat_lt (first text) (length text)) refl e

-- what follows a front
eqb_comm : (a b : ℕ) → eqb a b ≡ eqb b a
eqb_comm a b = grind (arith, nat_tests)

front_cons_yes : (c d : ℕ) (front text : List ℕ) → eqb c d ≡ true → after_front (c ∷ front) (d ∷ text) ≡ after_front front text
front_cons_yes c d front text is = rw is refl

front_cons_no : (c d : ℕ) (front text : List ℕ) → eqb c d ≡ false → after_front (c ∷ front) (d ∷ text) ≡ None
front_cons_no c d front text is = rw is refl

abbrev fits : List ℕ → List ℕ → Bool
fits front text = pointwise nat_eq (take (length front) text) front

fits_no : (c d : ℕ) (front text : List ℕ) → eqb c d ≡ false → fits (c ∷ front) (d ∷ text) ≡ false
fits_no c d front text is = rw (eqb_comm d c ∙ is) refl

fits_yes : (c d : ℕ) (front text : List ℕ) → eqb c d ≡ true → fits (c ∷ front) (d ∷ text) ≡ fits front text
fits_yes c d front text is = rw (eqb_comm d c ∙ is) refl

by_first : (c d : ℕ) (front text : List ℕ) (b : Bool) → eqb c d ≡ b
    → after_front front text ≡ cond (fits front text) (Some (drop (length front) text)) None
    → after_front (c ∷ front) (d ∷ text) ≡ cond (fits (c ∷ front) (d ∷ text)) (Some (drop (length (c ∷ front)) (d ∷ text))) None
by_first c d front text true is h = front_cons_yes c d front text is ∙ h ∙ ap (λ (b : Bool). cond b (Some (drop (length front) text)) None) (sym (fits_yes c d front text is))
by_first c d front text false is h = front_cons_no c d front text is ∙ ap (λ (b : Bool). cond b (Some (drop (length front) text)) None) (sym (fits_no c d front text is))

pub after_front_is : (front text : List ℕ) → after_front front text ≡ cond (fits front text) (Some (drop (length front) text)) None
after_front_is [] text = refl
after_front_is (c ∷ front) [] = refl
after_front_is (c ∷ front) (d ∷ text) = by_first c d front text (eqb c d) refl (after_front_is front text)

-- ---- parts that are one or more

-- one part, which is the text, or more
abbrev OneOrMore : ℕ → List ℕ → Type 0
OneOrMore mark text = (parts_at mark text ≡ text ∷ []) ⊎ ((one other : List ℕ) × (more : List (List ℕ)) × (parts_at mark text ≡ one ∷ other ∷ more))

nonempty : (mark : ℕ) (text : List ℕ) → (one : List ℕ) × (more : List (List ℕ)) × (parts_at mark text ≡ one ∷ more)
nonempty mark text = elim (parts_at mark text) as (λ ps. parts_at mark text ≡ ps → (one : List ℕ) × (more : List (List ℕ)) × (parts_at mark text ≡ one ∷ more)) [
  | [] ↦ λ e. absurd (omega (arith, length-slice_split (is_byte mark) text, ap length e))
  | one ∷ more ↦ λ e. (one, more, e)
] refl

more_first : (mark byte : ℕ) (text : List ℕ) (b : Bool) → is_byte mark byte ≡ b → OneOrMore mark text → OneOrMore mark (byte ∷ text)
more_first mark byte text true is h =
    let rest = nonempty mark text in
    inr ([], rest.0, rest.1, slice_split-cons_yes (is_byte mark) byte text is ∙ ap (λ (ps : List (List ℕ)). [] ∷ ps) rest.2)
more_first mark byte text false is (inl h) = inl (slice_split-cons_no (is_byte mark) byte text is ∙ ap (onto_first byte) h)
more_first mark byte text false is (inr h) = inr (byte ∷ h.0, h.1, h.2, slice_split-cons_no (is_byte mark) byte text is ∙ ap (onto_first byte) h.3)

pub one_or_more : (mark : ℕ) (text : List ℕ) → OneOrMore mark text
one_or_more mark [] = inl refl
one_or_more mark (byte ∷ text) = more_first mark byte text (is_byte mark byte) refl (one_or_more mark text)

pub parts_some : (mark : ℕ) (text : List ℕ) → 1 ≤ length (parts_at mark text)
parts_some mark text = omega (arith, length-slice_split (is_byte mark) text)
