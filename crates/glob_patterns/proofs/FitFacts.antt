-- Patterns are matched part by part, and the first place for a part between two `*` leaves the most of the text.
use Rattle.std.proofs.Common.{◌≡◌, ◌≢◌, ◌⊎◌, inl, inr, ⊎_elim, ℕ, ◌+◌, ◌-◌, ◌<◌, ◌≤◌, true, ◌==◌, List, [], ◌∷◌, ◌++◌, length, take, drop, refl, ap, sym, ◌∙◌, subst, append-nil, length-append, arith}
use Rattle.std.specs.Prelude.{◌↔◌}
use Rattle.std.proofs.lemmas.Bool.{and_parts, and_from, or_cases, or_left, or_right, eqb-true, eq-eqb, cases_lt, both_ways}
use Rattle.std.proofs.lemmas.List.{take-append-drop, drop_at, drop-drop, drop_all, length-drop}
use Rattle.std.proofs.lemmas.List.Elements.{All-head, All-tail}
use Rattle.kms_names.specs.Glob.{Globs, star, question_mark}
use Rattle.kms_names.proofs.GlobFacts.{one_matches, one_matched, star_takes_none, star_takes_run, star_takes_end}
use Rattle.glob_patterns.specs.Fits.{HasNoStar, takes, fits, FitsNowhere, IsBehindFirstFit}

first : (c : ℕ) (p : List ℕ) → HasNoStar (c ∷ p) → c ≢ star
first c p none = All-head (λ x. x ≢ star) c p none

others : (c : ℕ) (p : List ℕ) → HasNoStar (c ∷ p) → HasNoStar p
others c p none = All-tail (λ x. x ≢ star) c p none

pub takes_means : (c d : ℕ) → takes c d ≡ true → (c ≡ question_mark) ⊎ (c ≡ d)
takes_means c d e = ⊎_elim (λ q. inl (eqb-true c question_mark q)) (λ s. inr (sym (eqb-true d c s))) (or_cases (c == question_mark) (d == c) e)

takes_from : (c d : ℕ) (p t : List ℕ) → c ≢ star → Globs (c ∷ p) (d ∷ t) → takes c d ≡ true
takes_from c d p t other (inl (run, rest, e, same, matches)) = absurd (other e)
takes_from c d p t other (inr (inl (one, rest, e, same, matches))) = or_left (c == question_mark) (d == c) (eq-eqb c question_mark e)
takes_from c d p t other (inr (inr (rest, same, matches))) = let heads : d ≡ c = cc in or_right (c == question_mark) (d == c) (eq-eqb d c heads)

pub fits_long : (p t : List ℕ) → fits p t ≡ true → length p ≤ length t
fits_long [] t e = omega arith
fits_long (c ∷ p) [] e = absurd (cc)
fits_long (c ∷ p) (d ∷ t) e = let shorter : length p ≤ length t = fits_long p t (and_parts (takes c d) (fits p t) e).1 in omega arith

-- a part without `*` fits, and what follows it matches what is left
pub globs_fits : (p x t : List ℕ) → HasNoStar p → Globs (p ++ x) t → (fits p t ≡ true) × Globs x (drop (length p) t)
globs_fits [] x t none matches = (refl, matches)
globs_fits (c ∷ p) x [] none (inl (run, rest, e, same, matches)) = absurd (first c p none e)
globs_fits (c ∷ p) x [] none (inr (inl (one, rest, e, same, matches))) = absurd (cc)
globs_fits (c ∷ p) x [] none (inr (inr (rest, same, matches))) = absurd (cc)
globs_fits (c ∷ p) x (d ∷ t) none matches =
    let later = globs_fits p x t (others c p none) (one_matched c d (p ++ x) t (first c p none) matches) in
    (and_from (takes c d) (fits p t) (takes_from c d (p ++ x) t (first c p none) matches) later.0, later.1)

pub fits_globs : (p x t : List ℕ) → fits p t ≡ true → Globs x (drop (length p) t) → Globs (p ++ x) t
fits_globs [] x t e matches = matches
fits_globs (c ∷ p) x [] e matches = absurd (cc)
fits_globs (c ∷ p) x (d ∷ t) e matches =
    let parts = and_parts (takes c d) (fits p t) e in
    one_matches c d (p ++ x) t (takes_means c d parts.0) (fits_globs p x t parts.1 matches)

pub front : (p x t : List ℕ) → HasNoStar p → Globs (p ++ x) t ↔ ((fits p t ≡ true) × Globs x (drop (length p) t))
front p x t none = (globs_fits p x t none, λ h. fits_globs p x t h.0 h.1)

-- a part without `*` alone matches what it fits with nothing left
pub whole : (p t : List ℕ) → HasNoStar p → Globs p t ↔ ((length t ≡ length p) × (fits p t ≡ true))
whole p t none = (to, back)
  where
    to : Globs p t → (length t ≡ length p) × (fits p t ≡ true)
    to matches =
        let h = globs_fits p [] t none (subst (λ q. Globs q t) (sym (append-nil p)) matches) in
        let left : length (drop (length p) t) ≡ 0 = ap length h.1 in
        let short : length p ≤ length t = fits_long p t h.0 in
        (omega (arith, left, length-drop (length p) t), h.0)

    back : (length t ≡ length p) × (fits p t ≡ true) → Globs p t
    back (same, e) =
        let at_most : length t ≤ length p = omega arith in
        subst (λ q. Globs q t) (append-nil p) (fits_globs p [] t e (drop_all (length p) t at_most))

-- `*` leaves some end of the text
pub star_leaves : (x t : List ℕ) → Globs (star ∷ x) t → (k : ℕ) × (k ≤ length t) × Globs x (drop k t)
star_leaves x t matches =
    let ends = star_takes_end x t matches in
    let run : List ℕ = ends.0 in
    let same : t ≡ run ++ ends.1 = ends.2 in
    let left : drop (length run) t ≡ ends.1 = ap (drop (length run)) same ∙ drop_at run ends.1 (length run) refl in
    let within : length run ≤ length t = omega (arith, ap length same, length-append run ends.1) in
    (length run, within, subst (Globs x) (sym left) ends.3)

pub star_from : (x t : List ℕ) (k : ℕ) → Globs x (drop k t) → Globs (star ∷ x) t
star_from x t k matches =
    subst (Globs (star ∷ x)) (take-append-drop k t) (star_takes_run x (take k t) (drop k t) (star_takes_none x (drop k t) matches))

-- what a `*` begins matches also where more stands before
pub star_earlier : (x t : List ℕ) (k : ℕ) → Globs (star ∷ x) (drop k t) → Globs (star ∷ x) t
star_earlier x t k matches = subst (Globs (star ∷ x)) (take-append-drop k t) (star_takes_run x (take k t) (drop k t) matches)

-- a part without `*` behind the last `*` stands at the end
pub end : (p t : List ℕ) → HasNoStar p → Globs (star ∷ p) t ↔ ((length p ≤ length t) × (fits p (drop (length t - length p) t) ≡ true))
end p t none = (to, back)
  where
    to : Globs (star ∷ p) t → (length p ≤ length t) × (fits p (drop (length t - length p) t) ≡ true)
    to matches =
        let left = star_leaves p t matches in
        let k : ℕ = left.0 in
        let h = (whole p (drop k t) none).0 left.2 in
        let long : length (drop k t) ≡ length p = h.0 in
        let within : k ≤ length t = left.1 in
        let place : k ≡ length t - length p = omega (arith, long, length-drop k t) in
        (omega (arith, long, length-drop k t), subst (λ n. fits p (drop n t) ≡ true) place h.1)

    back : (length p ≤ length t) × (fits p (drop (length t - length p) t) ≡ true) → Globs (star ∷ p) t
    back (room, e) =
        let long : length (drop (length t - length p) t) ≡ length p = omega (arith, length-drop (length t - length p) t) in
        star_from p t (length t - length p) ((whole p (drop (length t - length p) t) none).1 (long, e))

module _ (p q t : List ℕ) (none : HasNoStar p) where
  -- a part between two `*` stands somewhere
  stands : Globs (star ∷ (p ++ star ∷ q)) t → (k : ℕ) × (fits p (drop k t) ≡ true) × Globs (star ∷ q) (drop (k + length p) t)
  stands matches =
      let left = star_leaves (p ++ star ∷ q) t matches in
      let k : ℕ = left.0 in
      let h = globs_fits p (star ∷ q) (drop k t) none left.2 in
      (k, h.0, subst (Globs (star ∷ q)) (drop-drop (length p) k t) h.1)

  pub stands_nowhere : FitsNowhere p t → ¬ (Globs (star ∷ (p ++ star ∷ q)) t)
  stands_nowhere nowhere matches = let h = stands matches in both_ways _ (nowhere h.0) h.1

  -- the first place serves where any does
  pub first_serves : (rest : List ℕ) → IsBehindFirstFit p t rest → Globs (star ∷ (p ++ star ∷ q)) t ↔ Globs (star ∷ q) rest
  first_serves rest (k, (fit, earlier), is) = (to, back)
    where
      to : Globs (star ∷ (p ++ star ∷ q)) t → Globs (star ∷ q) rest
      to matches =
          let h = stands matches in
          let j : ℕ = h.0 in
          ⊎_elim (λ (before : j < k). absurd (both_ways _ (earlier j before) h.1))
          (λ (behind : k ≤ j).
          let place : j + length p ≡ (k + length p) + (j - k) = omega arith in
          let same : drop (j + length p) t ≡ drop (j - k) (drop (k + length p) t) = ap (λ n. drop n t) place ∙ sym (drop-drop (j - k) (k + length p) t) in
          subst (Globs (star ∷ q)) (sym is) (star_earlier q (drop (k + length p) t) (j - k) (subst (Globs (star ∷ q)) same h.2)))
          (cases_lt j k)

      back : Globs (star ∷ q) rest → Globs (star ∷ (p ++ star ∷ q)) t
      back matches =
          star_from (p ++ star ∷ q) t k
          (fits_globs p (star ∷ q) (drop k t) fit (subst (Globs (star ∷ q)) (is ∙ sym (drop-drop (length p) k t)) matches))
