-- The lines of texts.
use Rattle.std.proofs.Common.{◌≡◌, ℕ, suc, ◌+◌, ◌<◌, List, [], ◌∷◌, ◌++◌, length, take, drop, take-append-drop, Bool, true, false, not, cond, nat_lt, Some, None, refl, sym, ap, ap₂, ◌∙◌, length-append, arith}
use Rattle.std.specs.Prelude.{◌==◌}
use Rattle.std.specs.List.{AllPass}
use Rattle.std.proofs.lemmas.Bool.{lt-ltb, ltb-true, eqb-true, eq-eqb}
use Rattle.std.proofs.Math.Seq.{take-append_seam}
use Rattle.journal_lines.specs.Cuts.{with_byte, lines_of, place_of, first_line, behind_line, cut_at}

take_next : (n c : ℕ) (text : List ℕ) → take (1 + n + 1) (c ∷ text) ≡ c ∷ take (n + 1) text
take_next n c text = let e : 1 + n + 1 ≡ suc (n + 1) = omega arith in ap (λ (k : ℕ). take k (c ∷ text)) e

drop_next : (n c : ℕ) (text : List ℕ) → drop (1 + n + 1) (c ∷ text) ≡ drop (n + 1) text
drop_next n c text = let e : 1 + n + 1 ≡ suc (n + 1) = omega arith in ap (λ (k : ℕ). drop k (c ∷ text)) e

abbrev IsNext : ℕ → List ℕ → Bool → Type 0
IsNext c text b =
    cond b ((c ∷ []) ∷ lines_of text) (with_byte c (lines_of text))
    ≡ take (cond (not b) (1 + place_of 10 text) 0 + 1) (c ∷ text) ∷ lines_of (drop (cond (not b) (1 + place_of 10 text) 0 + 1) (c ∷ text))

later : (c : ℕ) (text : List ℕ) → with_byte c (lines_of text) ≡ (c ∷ first_line text) ∷ lines_of (behind_line text) → IsNext c text false
later c text is = is ∙ ap₂ (λ (line rest : List ℕ). line ∷ lines_of rest) (sym (take_next (place_of 10 text) c text)) (sym (drop_next (place_of 10 text) c text))

next : (c : ℕ) (text : List ℕ) → lines_of (c ∷ text) ≡ first_line (c ∷ text) ∷ lines_of (behind_line (c ∷ text))
next c [] = elim (c == 10) as (λ b. IsNext c [] b) [ true ↦ refl | false ↦ refl ]
next c (d ∷ text) =
    elim (c == 10) as (λ b. IsNext c (d ∷ text) b) [ true ↦ refl | false ↦ later c (d ∷ text) (ap (with_byte c) (next d text)) ]

-- the first line, and then those of what follows it
pub next_line : (text : List ℕ) → 0 < length text → lines_of text ≡ first_line text ∷ lines_of (behind_line text)
next_line [] some = absurd (omega arith)
next_line (c ∷ text) some = next c text

pub cut_whole : (text : List ℕ) → first_line text ++ behind_line text ≡ text
cut_whole text = take-append-drop (place_of 10 text + 1) text

-- ---- cuts

-- the place of the first such byte behind others
pub place_behind : (stop : ℕ) (text rest : List ℕ) → AllPass (λ c. not (c == stop)) text → place_of stop (text ++ stop ∷ rest) ≡ length text
place_behind stop [] rest others = ap (λ (b : Bool). cond (not b) (1 + place_of stop rest) 0) (eq-eqb stop stop refl)
place_behind stop (c ∷ text) rest others =
    let one : 1 + length text ≡ suc (length text) = omega arith in
    ap (λ (b : Bool). cond b (1 + place_of stop (text ++ stop ∷ rest)) 0) (others 0 c (omega arith))
    ∙ ap (λ (n : ℕ). 1 + n) (place_behind stop text rest (λ k d lt. others (suc k) d (omega arith))) ∙ one

some_if_true : (b : Bool) (cut : List ℕ × List ℕ) → b ≡ true → cond b (Some cut) None ≡ Some cut
some_if_true true cut e = refl
some_if_true false cut e = cc

drop_more : (text : List ℕ) (stop : ℕ) (rest : List ℕ) → drop (length text + 1) (text ++ stop ∷ rest) ≡ rest
drop_more [] stop rest = refl
drop_more (c ∷ text) stop rest =
    let e : suc (length text) + 1 ≡ 1 + length text + 1 = omega arith in
    ap (λ (k : ℕ). drop k (c ∷ (text ++ stop ∷ rest))) e ∙ drop_next (length text) c (text ++ stop ∷ rest) ∙ drop_more text stop rest

-- a text with no such byte, that byte, and more
pub cut_behind : (stop : ℕ) (text rest : List ℕ) → AllPass (λ c. not (c == stop)) text → cut_at stop (text ++ stop ∷ rest) ≡ Some (text, rest)
cut_behind stop text rest others =
    let whole : List ℕ = text ++ stop ∷ rest in
    let place = place_behind stop text rest others in
    let size = length-append text (stop ∷ rest) in
    let back : drop (length text + 1) whole ≡ rest = drop_more text stop rest in
    some_if_true (nat_lt (place_of stop whole) (length whole)) _ (lt-ltb (place_of stop whole) (length whole) (omega arith))
    ∙ ap (λ (n : ℕ). Some (take n whole, drop (n + 1) whole)) place
    ∙ ap₂ (λ (a b : List ℕ). Some (a, b)) (take-append_seam text (stop ∷ rest)) back

some_if : (b : Bool) (cut found : List ℕ × List ℕ) → cond b (Some cut) None ≡ Some found → (b ≡ true) × (cut ≡ found)
some_if true cut found e = (refl, cc)
some_if false cut found e = cc

further : (stop c p : ℕ) (text : List ℕ) → text ≡ take p text ++ stop ∷ drop (p + 1) text → c ∷ text ≡ take (1 + p) (c ∷ text) ++ stop ∷ drop (1 + p + 1) (c ∷ text)
further stop c p text is =
    let one : suc p ≡ 1 + p = omega arith in
    ap (λ (more : List ℕ). c ∷ more) is
    ∙ ap₂ (λ (front back : List ℕ). front ++ stop ∷ back) (ap (λ (k : ℕ). take k (c ∷ text)) one) (sym (drop_next p c text))

seam : (stop : ℕ) (text : List ℕ) → place_of stop text < length text → text ≡ take (place_of stop text) text ++ stop ∷ drop (place_of stop text + 1) text
seam stop [] within = absurd (omega arith)
seam stop (c ∷ text) within =
    let p : ℕ = place_of stop text in
    (elim (c == stop) as (λ b. (c == stop) ≡ b → cond (not b) (1 + p) 0 < suc (length text)
    → c ∷ text ≡ take (cond (not b) (1 + p) 0) (c ∷ text) ++ stop ∷ drop (cond (not b) (1 + p) 0 + 1) (c ∷ text)) [
      | true ↦ λ e within. ap (λ (d : ℕ). d ∷ text) (eqb-true c stop e)
      | false ↦ λ e within. further stop c p text (seam stop text (omega arith))
    ]) refl within

-- what stands before and behind the byte makes the text
pub cut_is : (stop : ℕ) (text : List ℕ) (cut : List ℕ × List ℕ) → cut_at stop text ≡ Some cut → text ≡ cut.0 ++ stop ∷ cut.1
cut_is stop text cut is =
    let parts = some_if (nat_lt (place_of stop text) (length text)) (take (place_of stop text) text, drop (place_of stop text + 1) text) cut is in
    seam stop text (ltb-true (place_of stop text) (length text) parts.0) ∙ ap (λ (c : List ℕ × List ℕ). c.0 ++ stop ∷ c.1) parts.1
