-- Flags of the places at which a pattern may still fit, while its characters are read.
use Rattle.std.proofs.Common.{◌≡◌, ◌≢◌, ⊎_elim, ℕ, ◌+◌, ◌-◌, ◌<◌, ◌≤◌, Bool, true, false, ◌==◌, ◌||◌, ◌&&◌, List, [], ◌∷◌, length, drop, get_or, refl, ap, sym, ◌∙◌, arith}
use Rattle.std.proofs.lemmas.Bool.{ne_eqb, eq-eqb, cases_lt}
use Rattle.std.proofs.lemmas.List.{at_drop_more, drop-drop}
use Rattle.kms_names.specs.Glob.{question_mark}
use Rattle.glob_patterns.specs.Fits.{takes, fits, IsFirstFit}

-- of a pattern p, what is left to be read stands from a place on
abbrev pub Marks : List ℕ → List ℕ → List ℕ → ℕ → List Bool → Type 0
Marks p text left place flags =
    (k : ℕ) → k < length flags → fits p (drop k text) ≡ (get_or flags k false && fits left (drop (place + k) text))

and_true : (b : Bool) → (b && true) ≡ b
and_true true = refl
and_true false = refl

and_assoc : (a b c : Bool) → ((a && b) && c) ≡ (a && (b && c))
and_assoc true b c = refl
and_assoc false b c = refl

fits_next : (c : ℕ) (left text : List ℕ) (n : ℕ) → n < length text → fits (c ∷ left) (drop n text) ≡ (takes c (get_or text n 0) && fits left (drop (n + 1) text))
fits_next c left text n within = at_drop_more (fits (c ∷ left)) text n 0 within

-- a character that takes the one at its place leaves the rest to fit behind it
pub fits_behind : (c d : ℕ) (whole left text : List ℕ) (n : ℕ) → whole ≡ c ∷ left → n < length text → d ≡ get_or text n 0 → takes c d ≡ true
    → fits whole (drop n text) ≡ fits left (drop (n + 1) text)
fits_behind c d whole left text n is within at taken =
    ap (λ p. fits p (drop n text)) is
    ∙ fits_next c left text n within
    ∙ ap (λ e. takes c e && fits left (drop (n + 1) text)) (sym at)
    ∙ ap (λ b. b && fits left (drop (n + 1) text)) taken

module _ (p text : List ℕ) where
  pub marks_start : (flags : List Bool) → ((k : ℕ) → k < length flags → get_or flags k false ≡ true) → Marks p text p 0 flags
  marks_start flags set k within =
      let at : 0 + k ≡ k = omega arith in
      sym (ap (λ b. b && fits p (drop (0 + k) text)) (set k within) ∙ ap (λ n. fits p (drop n text)) at)

  pub marks_end : (flags : List Bool) (place : ℕ) → Marks p text [] place flags → (k : ℕ) → k < length flags → get_or flags k false ≡ fits p (drop k text)
  marks_end flags place marks k within = sym (marks k within ∙ and_true (get_or flags k false))

  pub marks_one : (c : ℕ) (left : List ℕ) (place : ℕ) (flags narrowed : List Bool) → length narrowed ≡ length flags → place + length flags ≤ length text
      → ((k : ℕ) → k < length flags → get_or narrowed k false ≡ (get_or flags k false && takes c (get_or text (place + k) 0)))
      → Marks p text (c ∷ left) place flags → Marks p text left (place + 1) narrowed
  marks_one c left place flags narrowed same room clears marks k within =
      let inside : k < length flags = omega arith in
      let before : place + k < length text = omega arith in
      let at : (place + k) + 1 ≡ (place + 1) + k = omega arith in
      marks k inside
      ∙ ap (λ b. get_or flags k false && b) (fits_next c left text (place + k) before)
      ∙ sym (and_assoc (get_or flags k false) (takes c (get_or text (place + k) 0)) (fits left (drop ((place + k) + 1) text)))
      ∙ ap (λ b. b && fits left (drop ((place + k) + 1) text)) (sym (clears k inside))
      ∙ ap (λ n. get_or narrowed k false && fits left (drop n text)) at

-- what takes any character clears no flag
pub takes_any : (c d : ℕ) (b : Bool) → c ≡ question_mark → b ≡ (b && takes c d)
takes_any c d b is = sym (ap (λ e. b && (e || (d == c))) (eq-eqb c question_mark is) ∙ and_true b)

-- what takes itself alone clears those of others
pub takes_itself : (c d : ℕ) (b : Bool) → c ≢ question_mark → (b && (d == c)) ≡ (b && takes c d)
takes_itself c d b other = sym (ap (λ e. b && (e || (d == c))) (ne_eqb c question_mark other))

-- places that are looked at in turn
module _ (p text : List ℕ) (start : ℕ) (earlier : (k : ℕ) → k < start → fits p (drop k text) ≡ false) where
  at_place : (k : ℕ) → fits p (drop k (drop start text)) ≡ fits p (drop (start + k) text)
  at_place k = ap (fits p) (drop-drop k start text)

  pub earlier_more : (lanes : ℕ) → ((k : ℕ) → k < lanes → fits p (drop k (drop start text)) ≡ false) → (k : ℕ) → k < start + lanes → fits p (drop k text) ≡ false
  earlier_more lanes none k within =
      ⊎_elim (λ (before : k < start). earlier k before)
      (λ (behind : start ≤ k).
      let inside : k - start < lanes = omega arith in
      let place : start + (k - start) ≡ k = omega arith in
      ap (λ n. fits p (drop n text)) (sym place) ∙ sym (at_place (k - start)) ∙ none (k - start) inside)
      (cases_lt k start)

  pub first_more : (k : ℕ) → IsFirstFit p (drop start text) k → IsFirstFit p text (start + k)
  first_more k (fit, none) = (sym (at_place k) ∙ fit, earlier_more k none)
