-- What stands behind the last `/` of a text.
use Rattle.std.proofs.Common.{◌≡◌, ◌≢◌, ℕ, ◌==◌, Bool, true, false, List, [], ◌∷◌, ◌++◌, if◌then◌else◌, fold, refl, sym, ap, ◌∙◌, append_assoc, All, eqb-true}
use Rattle.std.proofs.lemmas.List.{append-nil}
use Rattle.std.proofs.lemmas.List.Elements.{All-head, All-tail}
use Rattle.std.proofs.lemmas.List.Sums.{fold-append}
use Rattle.authority.specs.Facts.{behind_slash}

abbrev kept_or : List ℕ → ℕ → List ℕ
kept_or kept c = if c == 47 then [] else kept ++ c ∷ []

where_not : (b : Bool) (kept more : List ℕ) → b ≡ false → (if b then [] else more) ≡ more
where_not true kept more e = cc
where_not false kept more e = refl

is_not : (b : Bool) (c : ℕ) → (c == 47) ≡ b → c ≢ 47 → b ≡ false
is_not true c e ne = absurd (ne (eqb-true c 47 e))
is_not false c e ne = refl

-- without one all of it stands
kept_whole : (kept s : List ℕ) → All (λ c. c ≢ 47) s → fold kept_or kept s ≡ kept ++ s
kept_whole kept [] none = sym (append-nil kept)
kept_whole kept (c ∷ s) none =
    let first : kept_or kept c ≡ kept ++ c ∷ [] = where_not (c == 47) kept (kept ++ c ∷ []) (is_not (c == 47) c refl (All-head (λ x. x ≢ 47) c s none)) in
    ap (λ k. fold kept_or k s) first ∙ kept_whole (kept ++ c ∷ []) s (All-tail (λ x. x ≢ 47) c s none) ∙ append_assoc kept (c ∷ []) s

pub behind_none : (s : List ℕ) → All (λ c. c ≢ 47) s → behind_slash s ≡ s
behind_none s none = kept_whole [] s none

-- what stands before one doesn't count
pub behind_more : (before behind : List ℕ) → behind_slash (before ++ 47 ∷ behind) ≡ behind_slash behind
behind_more before behind = fold-append kept_or [] before (47 ∷ behind)
