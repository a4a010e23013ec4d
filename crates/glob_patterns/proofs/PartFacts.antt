-- What the answers of the parts of a pattern say of the whole.
use Rattle.std.proofs.Common.{◌≡◌, ◌≢◌, ⊎_elim, ℕ, ◌+◌, ◌-◌, ◌<◌, ◌≤◌, Bool, true, false, List, [], ◌∷◌, ◌++◌, length, drop, refl, ap, sym, ◌∙◌, subst, length-drop, arith}
use Rattle.std.specs.Prelude.{◌↔◌, IsTrue}
use Rattle.std.proofs.lemmas.Bool.{cases_lt, both_ways, false_from_ne_true}
use Rattle.kms_names.specs.Glob.{Globs, star}
use Rattle.glob_patterns.specs.Fits.{HasNoStar, fits, FitsNowhere, IsBehindFirstFit}
use Rattle.glob_patterns.proofs.FitFacts.{fits_long, front, whole, end, stands_nowhere, first_serves}

-- a part fits nowhere behind the last place that has room for it
past : (p t : List ℕ) (k : ℕ) → length t < k + length p → 0 < length p → fits p (drop k t) ≡ false
past p t k short some =
    false_from_ne_true _ (λ e. let long : length p ≤ length (drop k t) = fits_long p (drop k t) e in absurd (omega (arith, long, length-drop k t)))

pub nowhere_short : (p t : List ℕ) → length t < length p → FitsNowhere p t
nowhere_short p t short k = let shorter : length t < k + length p = omega arith in let some : 0 < length p = omega arith in past p t k shorter some

pub nowhere : (p t : List ℕ) → length p ≤ length t → ((k : ℕ) → k < length t - length p + 1 → fits p (drop k t) ≡ false) → FitsNowhere p t
nowhere [] t room none k = absurd (both_ways true (none 0 (let h : 0 < length t - 0 + 1 = omega arith in h)) refl)
nowhere (c ∷ p) t room none k =
    ⊎_elim (λ (before : k < length t - length (c ∷ p) + 1). none k before)
    (λ (behind : length t - length (c ∷ p) + 1 ≤ k).
    let short : length t < k + length (c ∷ p) = omega arith in
    let some : 0 < length (c ∷ p) = omega arith in past (c ∷ p) t k short some)
    (cases_lt k (length t - length (c ∷ p) + 1))

module _ (p t : List ℕ) (none : HasNoStar p) (count len : ℕ) (counted : count ≡ length p) (measured : len ≡ length t) where
  pub end_room : count ≤ len → (r : Bool) → r ≡ fits p (drop (len - count) t) → IsTrue r ↔ Globs (star ∷ p) t
  end_room room r e =
      let h = end p t none in
      let place : len - count ≡ length t - length p = omega arith in
      let fit : r ≡ fits p (drop (length t - length p) t) = e ∙ ap (λ n. fits p (drop n t)) place in
      let roomy : length p ≤ length t = omega arith in
      (λ is. h.1 (roomy, sym fit ∙ is), λ g. fit ∙ (h.0 g).1)

  pub end_none : len < count → (r : Bool) → r ≡ false → IsTrue r ↔ Globs (star ∷ p) t
  end_none short r e =
      (λ is. absurd (both_ways r e is), λ g. let room : length p ≤ length t = ((end p t none).0 g).0 in absurd (omega arith))

  pub whole_room : len ≡ count → (r : Bool) → r ≡ fits p t → IsTrue r ↔ Globs p t
  whole_room same r e =
      let h = whole p t none in
      let long : length t ≡ length p = omega arith in
      (λ is. h.1 (long, sym e ∙ is), λ g. e ∙ (h.0 g).1)

  pub whole_none : len ≢ count → (r : Bool) → r ≡ false → IsTrue r ↔ Globs p t
  whole_none other r e =
      (λ is. absurd (both_ways r e is), λ g. let long : length t ≡ length p = ((whole p t none).0 g).0 in absurd (other (omega arith)))

-- behind a `*`, with what is left of the pattern cut at its first `*`
module _ (all : Type 0) (r p q t : List ℕ) (cut : r ≡ p ++ star ∷ q) (none : HasNoStar p) (as_good : all ↔ Globs (star ∷ r) t) where
  to : all → Globs (star ∷ (p ++ star ∷ q)) t
  to a = subst (λ x. Globs (star ∷ x) t) cut (as_good.0 a)

  pub part_stands : (rest : List ℕ) → IsBehindFirstFit p t rest → all ↔ Globs (star ∷ q) rest
  part_stands rest behind =
      let h = first_serves p q t none rest behind in
      (λ a. h.0 (to a), λ g. as_good.1 (subst (λ x. Globs (star ∷ x) t) (sym cut) (h.1 g)))

  pub part_missing : FitsNowhere p t → (b : Bool) → b ≡ false → IsTrue b ↔ all
  part_missing nowhere b e = (λ is. absurd (both_ways b e is), λ a. absurd (stands_nowhere p q t none nowhere (to a)))

pub same_answer : (b : Bool) (A B : Type 0) → IsTrue b ↔ B → A ↔ B → IsTrue b ↔ A
same_answer b A B (to, back) (on, off) = (λ is. off (to is), λ a. back (on a))

-- a front before the first `*`
module _ (r p q t : List ℕ) (cut : r ≡ p ++ star ∷ q) (none : HasNoStar p) where
  pub front_stands : (rest : List ℕ) → fits p t ≡ true → rest ≡ drop (length p) t → (b : Bool) → IsTrue b ↔ Globs (star ∷ q) rest → IsTrue b ↔ Globs r t
  front_stands rest fit is b (on, off) =
      let h = front p (star ∷ q) t none in (
        λ e. subst (λ x. Globs x t) (sym cut) (h.1 (fit, subst (Globs (star ∷ q)) is (on e))),
        λ g. off (subst (Globs (star ∷ q)) (sym is) (h.0 (subst (λ x. Globs x t) cut g)).1),
      )

  pub front_missing : fits p t ≡ false → (b : Bool) → b ≡ false → IsTrue b ↔ Globs r t
  front_missing misfit b e =
      (λ is. absurd (both_ways b e is), λ g. absurd (both_ways _ misfit ((front p (star ∷ q) t none).0 (subst (λ x. Globs x t) cut g)).0))
