-- ARNs are cut in one way, and are like patterns part by part.
use Rattle.std.proofs.Common.{◌≡◌, ℕ, zero, suc, List, [], ◌∷◌, refl, sym, ◌∙◌, ap, subst}
use Rattle.std.specs.List.{AllZip}
use Rattle.cond_ops.specs.Arn.{IsCutInto}
use Rattle.cond_ops.specs.Cut.{IsCutAt}
use Rattle.cond_ops.specs.Relation.{IsLike, PartsAreLike}
use Rattle.cond_ops.proofs.CutFacts.{same_cut}

pub one_cut_into : (n : ℕ) (text : List ℕ) (ps qs : List (List ℕ)) → IsCutInto n text ps → IsCutInto n text qs → ps ≡ qs
one_cut_into zero text [] qs here there = absurd here
one_cut_into zero text (p ∷ q ∷ ps) qs here there = absurd here
one_cut_into zero text (p ∷ []) [] here there = absurd there
one_cut_into zero text (p ∷ []) (q ∷ r ∷ qs) here there = absurd there
one_cut_into zero text (p ∷ []) (q ∷ []) here there = ap (λ x. x ∷ []) (sym here ∙ there)
one_cut_into (suc n) text [] qs here there = absurd here
one_cut_into (suc n) text (p ∷ ps) [] here there = absurd there
one_cut_into (suc n) text (p ∷ ps) (q ∷ qs) (rest, cut, more) (others, cut', more') =
    let same = same_cut 58 text p rest q others cut cut' in
    let tails : ps ≡ qs = one_cut_into n others ps qs (subst (λ r. IsCutInto n r ps) same.1 more) more' in
    let heads : p ≡ q = same.0 in
    cc

-- a text that has no colon, or too few behind the first, is not cut
pub no_cut : (n : ℕ) (text : List ℕ) → ((part rest : List ℕ) → ¬ (IsCutAt 58 text part rest)) → (ps : List (List ℕ)) → ¬ (IsCutInto (suc n) text ps)
no_cut n text none [] h = h
no_cut n text none (p ∷ ps) (rest, cut, more) = none p rest cut

pub no_further_cut : (n : ℕ) (text part rest : List ℕ) → IsCutAt 58 text part rest → ((ps : List (List ℕ)) → ¬ (IsCutInto n rest ps)) → (ps : List (List ℕ)) → ¬ (IsCutInto (suc n) text ps)
no_further_cut n text part rest cut none [] h = h
no_further_cut n text part rest cut none (p ∷ ps) (others, cut', more) =
    let same = same_cut 58 text p others part rest cut' cut in none ps (subst (λ r. IsCutInto n r ps) same.1 more)

-- of a text whose parts are like a pattern's, the parts
pub parts_of_like : (n : ℕ) (text pattern : List ℕ) → PartsAreLike n text pattern → (ps : List (List ℕ)) × IsCutInto n text ps
parts_of_like zero text pattern like = (text ∷ [], refl)
parts_of_like (suc n) text pattern (part, rest, other, others, none, none', at, at', here, there) =
    let behind = parts_of_like n rest others there in (part ∷ behind.0, (rest, (none, at), behind.1))

pub by_parts : (n : ℕ) (text pattern : List ℕ) (ps : List (List ℕ)) → IsCutInto n text ps → PartsAreLike n text pattern → (qs : List (List ℕ)) × IsCutInto n pattern qs × AllZip IsLike ps qs
by_parts zero text pattern [] cut like = absurd cut
by_parts zero text pattern (p ∷ q ∷ ps) cut like = absurd cut
by_parts zero text pattern (p ∷ []) cut like = (pattern ∷ [], refl, (subst (λ t. IsLike t pattern) cut like, tt))
by_parts (suc n) text pattern [] cut like = absurd cut
by_parts (suc n) text pattern (p ∷ ps) (rest, cut, more) (part, behind, other, others, none, none', at, at', here, there) =
    let same = same_cut 58 text part behind p rest (none, at) cut in
    let later = by_parts n rest others ps more (subst (λ r. PartsAreLike n r others) same.1 there) in
    (other ∷ later.0, (others, (none', at'), later.1), (subst (λ t. IsLike t other) same.0 here, later.2))

pub of_parts : (n : ℕ) (text pattern : List ℕ) (ps qs : List (List ℕ)) → IsCutInto n text ps → IsCutInto n pattern qs → AllZip IsLike ps qs → PartsAreLike n text pattern
of_parts zero text pattern [] qs cut cut' zip = absurd cut
of_parts zero text pattern (p ∷ p' ∷ ps) qs cut cut' zip = absurd cut
of_parts zero text pattern (p ∷ []) [] cut cut' zip = absurd cut'
of_parts zero text pattern (p ∷ []) (q ∷ q' ∷ qs) cut cut' zip = absurd cut'
of_parts zero text pattern (p ∷ []) (q ∷ []) cut cut' zip = subst (λ t. IsLike t pattern) (sym cut) (subst (λ t. IsLike p t) (sym cut') zip.0)
of_parts (suc n) text pattern [] qs cut cut' zip = absurd cut
of_parts (suc n) text pattern (p ∷ ps) [] cut cut' zip = absurd cut'
of_parts (suc n) text pattern (p ∷ ps) (q ∷ qs) (rest, cut, more) (others, cut', more') zip =
    (p, rest, q, others, cut.0, cut'.0, cut.1, cut'.1, zip.0, of_parts n rest others ps qs more more' zip.1)
