-- Where a text is cut at its first colon there is one cut.
use Rattle.std.proofs.Common.{◌≡◌, ◌≢◌, ℕ, List, [], ◌∷◌, ◌++◌, refl, sym, ◌∙◌, subst}
use Rattle.std.proofs.lemmas.List.{append_cancel_left}
use Rattle.kms_names.specs.Parts.{HasNoColon}
use Rattle.std.proofs.lemmas.List.Elements.{All-head, All-tail}

pub one_cut : (a b r s : List ℕ) → HasNoColon a → HasNoColon b → a ++ 58 ∷ r ≡ b ++ 58 ∷ s → (a ≡ b) × (r ≡ s)
one_cut [] [] r s none_a none_b e = (refl, cc)
one_cut [] (y ∷ b) r s none_a none_b e =
    let head : y ≡ 58 = cc in absurd (All-head (λ c. c ≢ 58) y b none_b head)
one_cut (x ∷ a) [] r s none_a none_b e =
    let head : x ≡ 58 = cc in absurd (All-head (λ c. c ≢ 58) x a none_a head)
one_cut (x ∷ a) (y ∷ b) r s none_a none_b e =
    let heads : x ≡ y = cc in
    let tails : a ++ 58 ∷ r ≡ b ++ 58 ∷ s = cc in
    let rest : (a ≡ b) × (r ≡ s) = one_cut a b r s (All-tail (λ c. c ≢ 58) x a none_a) (All-tail (λ c. c ≢ 58) y b none_b) tails in
    (cc, rest.1)

pub colon_stands : (a r : List ℕ) → HasNoColon (a ++ 58 ∷ r) → ⊥
colon_stands [] r none = All-head (λ c. c ≢ 58) 58 r none refl
colon_stands (x ∷ a) r none = colon_stands a r (All-tail (λ c. c ≢ 58) x (a ++ 58 ∷ r) none)

-- behind a front no part stands before a colon where no colon stands
pub no_part_without_colon : (front rest text a r : List ℕ) → text ≡ front ++ rest → HasNoColon rest → text ≢ front ++ (a ++ 58 ∷ r)
no_part_without_colon front rest text a r e none f =
    let same : rest ≡ a ++ 58 ∷ r = append_cancel_left front _ _ (sym e ∙ f) in
    colon_stands a r (subst HasNoColon same none)

-- behind a front the part before the first colon is one
pub one_part : (front text a b r s : List ℕ) → HasNoColon a → HasNoColon b → text ≡ front ++ (a ++ 58 ∷ r) → text ≡ front ++ (b ++ 58 ∷ s) → (a ≡ b) × (r ≡ s)
one_part front text a b r s none_a none_b e f = one_cut a b r s none_a none_b (append_cancel_left front _ _ (sym e ∙ f))
