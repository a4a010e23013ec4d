-- What texts are read as stands in the relation that the texts do.
use Rattle.std.proofs.Common.{◌≡◌, ◌⊎◌, inl, inr, ℕ, ℤ, List, [], ◌∷◌, ◌++◌, refl, sym, subst, arith}
use Rattle.std.specs.Prelude.{◌↔◌, Any, IsTrue, Bool}
use Rattle.cond_ops.specs.Integers.{AreReadOf, IsReadAs, kind_as}
use Rattle.cond_ops.specs.Relation.{Compares, RelatesAs}
use Rattle.cond_ops.specs.declared.integers.Reading.{Reading}
use Rattle.cond_ops.specs.declared.integers.Reading.TheVariants.{Number, Date}
use Rattle.cond_ops.specs.declared.operators.Order.{Order}
use Rattle.cond_ops.specs.declared.operators.Kind.{Kind}
use Rattle.cond_ops.proofs.MatchingFacts.{any_here, any_there, any_of, any_left, any_right, any_split}
use Rattle.cond_ops.proofs.ReadingFacts.{one_number, one_moment}

-- a text is read as one integer
one_read : (reading : Reading) (text : List ℕ) (x y : ℤ) → IsReadAs reading text x → IsReadAs reading text y → x ≡ y
one_read Number text x y here there = one_number text x y here there
one_read Date text x y here there = one_moment text x y here there

module _ (reading : Reading) (texts : List (List ℕ)) where
  -- the integers so far, and those that the rest is read as
  abbrev pub AreReadSoFar : List ℤ → List (List ℕ) → Type 0
  AreReadSoFar integers rest =
      (z : ℤ) → (Any (λ y. y ≡ z) integers ⊎ Any (λ text. IsReadAs reading text z) rest) ↔ Any (λ text. IsReadAs reading text z) texts

  module _ (integers : List ℤ) (text : List ℕ) (rest others : List (List ℕ)) (next : rest ≡ text ∷ others) (so_far : AreReadSoFar integers rest) where
    within : (z : ℤ) → Any (λ t. IsReadAs reading t z) (text ∷ others) → Any (λ t. IsReadAs reading t z) texts
    within z any = (so_far z).0 (inr (subst (Any (λ t. IsReadAs reading t z)) (sym next) any))

    -- a text that is read as an integer
    pub one_more : (n : ℤ) → IsReadAs reading text n → AreReadSoFar (integers ++ n ∷ []) others
    one_more n is z =
        let Is = λ (y : ℤ). y ≡ z in
        let Reads = λ (t : List ℕ). IsReadAs reading t z in (
          λ either. elim either [
            | inl any ↦ elim (any_split Is integers n any) [
              | inl old ↦ (so_far z).0 (inl old)
              | inr new ↦ within z (any_here Reads text others (subst (IsReadAs reading text) new is))
            ]
            | inr any ↦ within z (any_there Reads text others any)
          ],
          λ any. elim ((so_far z).1 any) [
            | inl old ↦ inl (any_left Is integers (n ∷ []) old)
            | inr left ↦ elim (any_of Reads text others (subst (Any Reads) next left)) [
              | inl here ↦ inl (any_right Is integers (n ∷ []) (any_here Is n [] (one_read reading text n z is here)))
              | inr there ↦ inr there
            ]
          ],
        )

    -- one that is not
    pub none_more : ((z : ℤ) → ¬ (IsReadAs reading text z)) → AreReadSoFar integers others
    none_more none z =
        let Reads = λ (t : List ℕ). IsReadAs reading t z in (
          λ either. elim either [
            | inl old ↦ (so_far z).0 (inl old)
            | inr any ↦ within z (any_there Reads text others any)
          ],
          λ any. elim ((so_far z).1 any) [
            | inl old ↦ inl old
            | inr left ↦ elim (any_of Reads text others (subst (Any Reads) next left)) [
              | inl here ↦ absurd (none z here)
              | inr there ↦ inr there
            ]
          ],
        )

  -- all texts are read
  pub all_read : (integers : List ℤ) (rest : List (List ℕ)) → rest ≡ [] → AreReadSoFar integers rest → AreReadOf reading texts integers
  all_read integers rest ended so_far z =
      let Reads = λ (t : List ℕ). IsReadAs reading t z in (
        λ any. (so_far z).0 (inl any),
        λ any. elim ((so_far z).1 any) [
          | inl old ↦ old
          | inr left ↦ let none : Any Reads [] = subst (Any Reads) ended left in absurd (omega (arith, none.2))
        ],
      )

-- the relation by what both texts are read as
abbrev RelateRead : Reading → Order → List ℕ → List ℕ → Type 0
RelateRead reading order value policy = (x : ℤ) × (y : ℤ) × IsReadAs reading value x × IsReadAs reading policy y × Compares order x y

relate_read : (reading : Reading) (order : Order) (value policy : List ℕ) → RelatesAs (kind_as reading order) value policy → RelateRead reading order value policy
relate_read Number order value policy related = related
relate_read Date order value policy related = related

read_relate : (reading : Reading) (order : Order) (value policy : List ℕ) → RelateRead reading order value policy → RelatesAs (kind_as reading order) value policy
read_relate Number order value policy related = related
read_relate Date order value policy related = related

-- an integer is so to some of those that texts are read as, exactly where its text is related to some of these
pub some_related : (reading : Reading) (order : Order) (compared : Kind) → compared ≡ kind_as reading order
    → (value : List ℕ) (left : ℤ) → IsReadAs reading value left
    → (texts : List (List ℕ)) (integers : List ℤ) → AreReadOf reading texts integers
    → (r : Bool) → IsTrue r ↔ Any (Compares order left) integers → IsTrue r ↔ Any (RelatesAs compared value) texts
some_related reading order compared alike value left is texts integers are r says =
    subst (λ (k : Kind). IsTrue r ↔ Any (RelatesAs k value) texts) (sym alike) (
      λ yes.
          let (i, y, lt, at, so) = says.0 yes in
          let (k, text, within, there, reads) = (are y).0 (i, y, lt, at, refl) in
          (k, text, within, there, read_relate reading order value text (left, y, is, reads, so)),
      λ any.
          let (k, text, within, there, related) = any in
          let (x, y, reads, also, so) = relate_read reading order value text related in
          let (i, z, lt, at, same) = (are y).1 (k, text, within, there, also) in
          says.1 (i, z, lt, at, subst (Compares order left) (sym same) (subst (λ v. Compares order v y) (one_read reading value x left reads is) so)),
    )
