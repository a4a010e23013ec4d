-- The headers, one after another.
use Rattle.std.proofs.Common.{◌≡◌, ℕ, zero, suc, ◌+◌, ◌<◌, List, [], ◌∷◌, length, drop, Bool, true, false, Some, None, refl, sym, ap, ◌∙◌, arith}
use Rattle.std.specs.List.{slice_get, list_all}
use Rattle.http_front.specs.Heading.{Field, values_in, is_named}

abbrev From : List Field → ℕ → Field → Type 0
From fields i field = (i < length fields) × (drop i fields ≡ field ∷ drop (i + 1) fields)

after_one : (f : Field) (fields : List Field) (i : ℕ) → drop (suc i + 1) (f ∷ fields) ≡ drop (i + 1) fields
after_one f fields i = let e : suc i + 1 ≡ suc (i + 1) = omega arith in ap (λ (n : ℕ). drop n (f ∷ fields)) e

first_one : (f : Field) (fields : List Field) → drop (0 + 1) (f ∷ fields) ≡ fields
first_one f fields = let e : 0 + 1 ≡ suc 0 = omega arith in ap (λ (n : ℕ). drop n (f ∷ fields)) e

pub some_field : (fields : List Field) (i : ℕ) (field : Field) → Some field ≡ slice_get fields i → From fields i field
some_field [] i field e = cc
some_field (f ∷ fields) zero field e =
    let same : field ≡ f = cc in (omega arith, ap (λ (g : Field). g ∷ fields) (sym same) ∙ ap (λ (fs : List Field). field ∷ fs) (sym (first_one f fields)))
some_field (f ∷ fields) (suc i) field e =
    let h = some_field fields i field e in (omega (arith, h.0), h.1 ∙ ap (λ (fs : List Field). field ∷ fs) (sym (after_one f fields i)))

pub no_field : (fields : List Field) (i : ℕ) → None ≡ slice_get fields i → drop i fields ≡ []
no_field [] zero e = refl
no_field [] (suc i) e = refl
no_field (f ∷ fields) zero e = cc
no_field (f ∷ fields) (suc i) e = no_field fields i e

-- ---- the values of a name

module _ (name : List ℕ) where
  pub named : (field : Field) (fields : List Field) → true ≡ is_named name field → values_in name (field ∷ fields) ≡ field.1 ∷ values_in name fields
  named field fields is = rw (sym is) refl

  pub not_named : (field : Field) (fields : List Field) → false ≡ is_named name field → values_in name (field ∷ fields) ≡ values_in name fields
  not_named field fields is = rw (sym is) refl

-- ---- a test of all

pub all_first : (test : Field → Bool) (field : Field) (fields : List Field) → false ≡ test field → false ≡ list_all test (field ∷ fields)
all_first test field fields is = rw (sym is) refl

pub all_rest : (test : Field → Bool) (field : Field) (fields : List Field) → true ≡ test field → list_all test fields ≡ list_all test (field ∷ fields)
all_rest test field fields is = rw (sym is) refl
