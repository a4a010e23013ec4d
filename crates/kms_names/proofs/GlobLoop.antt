-- What the loop of a match keeps, and how its work falls.
use Rattle.std.proofs.Common.{◌≡◌, ◌≢◌, ◌⊎◌, ℕ, ◌+◌, ◌*◌, ◌<◌, ◌≤◌, List, ◌∷◌, length, Option, None, Some, arith}
use Rattle.std.proofs.Math.Nat.{mul-le-mul_right}
use Rattle.kms_names.specs.Glob.{Globs, star, question_mark}
use Rattle.kms_names.specs.GlobMoves.{letters, GoesLater}
use Rattle.kms_names.specs.declared.globs.Case.{Case}
use Rattle.kms_names.specs.declared.globs.Place.{Place}
use Rattle.kms_names.proofs.GlobFacts.{IsAsGood, good_after_star, good_after_advance, good_one_later}

-- the letters of the place behind the last `*`
abbrev pub last_of : Case → Option Place → Option (List ℕ × List ℕ)
last_of by None = None
last_of by (Some place) = Some (letters by place.pattern.now, letters by place.text.now)

-- how many characters later the last `*` may still reach
abbrev pub room : ℕ → Option (List ℕ × List ℕ) → ℕ
room n None = n
room n (Some last) = length last.1

abbrev pub LastFits : ℕ → Option (List ℕ × List ℕ) → Type 0
LastFits n None = Unit {0}
LastFits n (Some last) = length last.0 ≤ n

-- the work that is left, of a pattern p and a text t, where q is left of the pattern
abbrev pub work : List ℕ → List ℕ → List ℕ → Option (List ℕ × List ℕ) → ℕ
work p t q last = room (length t) last * (length p + 1) + length q

-- of a pattern p and a text t, q and r are left
pub record Keeps (p t : List ℕ) (start : ℕ) (q r : List ℕ) (last : Option (List ℕ × List ℕ)) (steps : ℕ) : Type 0 where
  pub as_good : IsAsGood (Globs p t) q r last
  pub pattern_fits : length q ≤ length p
  pub text_fits : length r ≤ room (length t) last
  pub last_fits : LastFits (length p) last
  pub cost : steps + work p t q last ≤ start + (length t * (length p + 1) + length p)

pub star_falls : (p t : List ℕ) (start : ℕ) (q r : List ℕ) (last : Option (List ℕ × List ℕ)) (steps : ℕ) → Keeps p t start (star ∷ q) r last steps
    → work p t q (Some (q, r)) < work p t (star ∷ q) last
star_falls p t start q r last steps keeps = omega (arith, mul-le-mul_right (length p + 1) keeps.text_fits)

pub star_keeps : (p t : List ℕ) (start : ℕ) (q r : List ℕ) (last : Option (List ℕ × List ℕ)) (steps after : ℕ) → after ≤ steps + 1
    → Keeps p t start (star ∷ q) r last steps → Keeps p t start q r (Some (q, r)) after
star_keeps p t start q r last steps after one keeps =
    let fewer : work p t q (Some (q, r)) < work p t (star ∷ q) last = star_falls p t start q r last steps keeps in record {
      as_good = good_after_star (Globs p t) q r last keeps.as_good;
      pattern_fits = omega arith;
      text_fits = omega arith;
      last_fits = omega arith;
      cost = omega arith;
    }

pub advance_keeps : (p t : List ℕ) (start c d : ℕ) (q r : List ℕ) (last : Option (List ℕ × List ℕ)) (steps after : ℕ) → after ≤ steps + 1
    → c ≢ star → (c ≡ question_mark) ⊎ (c ≡ d) → Keeps p t start (c ∷ q) (d ∷ r) last steps → Keeps p t start q r last after
advance_keeps p t start c d q r last steps after one other takes keeps = record {
  as_good = good_after_advance (Globs p t) c d q r last other takes keeps.as_good;
  pattern_fits = omega arith;
  text_fits = omega arith;
  last_fits = keeps.last_fits;
  cost = omega arith;
}

pub later_falls : (p t : List ℕ) (start : ℕ) (q r a : List ℕ) (c : ℕ) (rest : List ℕ) (steps : ℕ) → Keeps p t start q r (Some (a, c ∷ rest)) steps
    → work p t a (Some (a, rest)) < work p t q (Some (a, c ∷ rest))
later_falls p t start q r a c rest steps keeps = omega (arith, keeps.last_fits)

pub later_keeps : (p t : List ℕ) (start : ℕ) (q r a : List ℕ) (c : ℕ) (rest : List ℕ) (steps after : ℕ) → after ≤ steps + 1 → ¬ (Globs q r)
    → Keeps p t start q r (Some (a, c ∷ rest)) steps → Keeps p t start a rest (Some (a, rest)) after
later_keeps p t start q r a c rest steps after one stuck keeps =
    let fewer : work p t a (Some (a, rest)) < work p t q (Some (a, c ∷ rest)) = later_falls p t start q r a c rest steps keeps in record {
      as_good = good_one_later (Globs p t) q r a c rest stuck keeps.as_good;
      pattern_fits = keeps.last_fits;
      text_fits = omega arith;
      last_fits = keeps.last_fits;
      cost = omega arith;
    }

module _ (by : Case) (p t : List ℕ) (start : ℕ) (q r : List ℕ) (next : Place) (steps : ℕ) where
  pub later_place_falls : (last : Option Place) → GoesLater by last (Some next) → Keeps p t start q r (last_of by last) steps
      → work p t (letters by next.pattern.now) (last_of by (Some next)) < work p t q (last_of by last)
  later_place_falls None goes keeps = cc
  later_place_falls (Some last) (same, (c, text)) keeps =
      rw same (rw text (later_falls p t start q r _ c _ steps (rw text at keeps)))

  pub later_place_keeps : (last : Option Place) (after : ℕ) → GoesLater by last (Some next) → ¬ (Globs q r) → after ≤ steps + 1 → Keeps p t start q r (last_of by last) steps
      → Keeps p t start (letters by next.pattern.now) (letters by next.text.now) (last_of by (Some next)) after
  later_place_keeps None after goes stuck one keeps = cc
  later_place_keeps (Some last) after (same, (c, text)) stuck one keeps =
      rw same (later_keeps p t start q r _ c _ steps after one stuck (rw text at keeps))
