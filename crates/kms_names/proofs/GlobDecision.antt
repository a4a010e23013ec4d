-- Whether a pattern matches a text is decided.
use Rattle.std.proofs.Common.{◌≡◌, ◌⊎◌, inl, inr, ℕ, List, [], ◌∷◌, ◌++◌, refl, ap, sym, ◌∙◌, subst}
use Rattle.kms_names.specs.Glob.{Globs, star, question_mark}
use Rattle.kms_names.proofs.Decisions.{Decided, decided_like, decided_both, decided_either, same_number}

-- the fact holds of an end of a text
abbrev OfAnEnd : (List ℕ → Type 0) → List ℕ → Type 0
OfAnEnd P text = (run : List ℕ) × (rest : List ℕ) × (text ≡ run ++ rest) × P rest

module _ (P : List ℕ → Type 0) (each : (text : List ℕ) → Decided (P text)) where
  decided_end : (text : List ℕ) → Decided (OfAnEnd P text)
  decided_end [] = decided_like (λ p. ([], [], refl, p)) back (each [])
    where
      back : OfAnEnd P [] → P []
      back ([], rest, e, p) = subst P (sym e) p
      back (d ∷ run, rest, e, p) = absurd (cc)
  decided_end (c ∷ text) = decided_like to back (decided_either (each (c ∷ text)) (decided_end text))
    where
      to : P (c ∷ text) ⊎ OfAnEnd P text → OfAnEnd P (c ∷ text)
      to (inl p) = ([], c ∷ text, refl, p)
      to (inr (run, rest, e, p)) = (c ∷ run, rest, ap (λ t. c ∷ t) e, p)

      back : OfAnEnd P (c ∷ text) → P (c ∷ text) ⊎ OfAnEnd P text
      back ([], rest, e, p) = inl (subst P (sym e) p)
      back (d ∷ run, rest, e, p) = let tails : text ≡ run ++ rest = cc in inr (run, rest, tails, p)

  -- the fact holds behind one character of which another fact holds
  decided_behind : (Q : ℕ → Type 0) → ((c : ℕ) → Decided (Q c)) → (text : List ℕ)
      → Decided ((one : ℕ) × (rest : List ℕ) × Q one × (text ≡ one ∷ rest) × P rest)
  decided_behind Q one_decided [] = inr (λ (one, rest, q, e, p). cc)
  decided_behind Q one_decided (c ∷ text) = decided_like to back (decided_both (one_decided c) (each text))
    where
      to : Q c × P text → (one : ℕ) × (rest : List ℕ) × Q one × (c ∷ text ≡ one ∷ rest) × P rest
      to (q, p) = (c, text, q, refl, p)

      back : (one : ℕ) × (rest : List ℕ) × Q one × (c ∷ text ≡ one ∷ rest) × P rest → Q c × P text
      back (one, rest, q, e, p) =
          let heads : one ≡ c = cc in
          let tails : rest ≡ text = cc in
          (subst Q heads q, subst P tails p)

decided_none : (text : List ℕ) → Decided (text ≡ [])
decided_none [] = inl refl
decided_none (c ∷ text) = inr (λ e. cc)

pub decided_globs : (pattern text : List ℕ) → Decided (Globs pattern text)
decided_globs [] text = decided_none text
decided_globs (c ∷ p) text =
    decided_either
    (decided_like (λ h. (h.1.0, h.1.1, h.0, h.1.2, h.1.3)) (λ h. (h.2, (h.0, h.1, h.3, h.4))) (decided_both (same_number c star) (decided_end (Globs p) (decided_globs p) text)))
    (decided_either
    (decided_like (λ h. (h.0, h.1, h.2, h.3, h.4)) (λ h. (h.0, h.1, h.2, h.3, h.4)) (decided_behind (Globs p) (decided_globs p) (λ one. c ≡ question_mark) (λ one. same_number c question_mark) text))
    (decided_like to back (decided_behind (Globs p) (decided_globs p) (λ one. one ≡ c) (λ one. same_number one c) text)))
  where
    to : (one : ℕ) × (rest : List ℕ) × (one ≡ c) × (text ≡ one ∷ rest) × Globs p rest → (rest : List ℕ) × (text ≡ c ∷ rest) × Globs p rest
    to (one, rest, q, e, h) = (rest, e ∙ ap (λ x. x ∷ rest) q, h)

    back : (rest : List ℕ) × (text ≡ c ∷ rest) × Globs p rest → (one : ℕ) × (rest : List ℕ) × (one ≡ c) × (text ≡ one ∷ rest) × Globs p rest
    back (rest, e, h) = (c, rest, refl, e, h)
