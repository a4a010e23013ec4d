-- What a value is read as is related as the value is.
use Rattle.std.proofs.Common.{◌≡◌, inl, inr, ℕ, List, [], ◌∷◌, refl, sym, ◌∙◌, subst, arith, ℤ, Bool, true, false}
use Rattle.std.specs.Prelude.{◌↔◌, IsTrue, codes, Any, Contains}
use Rattle.std.specs.List.{AllZip}
use Rattle.std.proofs.lemmas.List.{get_or_default}
use Rattle.cond_ops.specs.Arn.{IsCutInto, read_parts_of}
use Rattle.cond_ops.specs.Moment.{IsMoment}
use Rattle.cond_ops.specs.Number.{IsNumber}
use Rattle.cond_ops.specs.Reading.{ComparesRead, IsLikeParts}
use Rattle.cond_ops.specs.Relation.{Compares, IsLike, RelatesAs}
use Rattle.cond_ops.specs.Value.{IsTruth}
use Rattle.cond_ops.specs.declared.arns.ReadArn.{ReadArn}
use Rattle.cond_ops.specs.declared.operators.Order.{Order}
use Rattle.cond_ops.specs.declared.operators.Kind.{Kind}
use Rattle.cond_ops.specs.declared.operators.Kind.TheVariants as kind
use Rattle.cond_ops.proofs.ArnFacts.{by_parts, of_parts, one_cut_into}
use Rattle.cond_ops.proofs.ReadingFacts.{one_number, one_moment}
use Rattle.cond_ops.proofs.MatchingFacts.{any_here, any_there, any_of}

-- a text is one truth value at most
pub one_truth : (text : List ℕ) (x y : Bool) → IsTruth text x → IsTruth text y → x ≡ y
one_truth text true true here there = refl
one_truth text false false here there = refl
one_truth text true false here there = let bad : codes "true" ≡ codes "false" = sym here ∙ there in cc
one_truth text false true here there = let bad : codes "false" ≡ codes "true" = sym here ∙ there in cc

-- a number that was read of a text is so to another that was read, or to nothing
module _ (Reads : List ℕ → ℤ → Type 0) (one : (text : List ℕ) (x y : ℤ) → Reads text x → Reads text y → x ≡ y) (order : Order) where
  pub compares_some : (policy : List ℕ) (left right : ℤ) → Reads policy right → (r : Bool) → IsTrue r ↔ Compares order left right → IsTrue r ↔ ComparesRead Reads order left policy
  compares_some policy left right is r says = (
    λ yes. (right, is, says.0 yes),
    λ read. says.1 (subst (Compares order left) (one policy read.0 right read.1 is) read.2),
  )

  pub compares_none : (policy : List ℕ) (left : ℤ) → ((y : ℤ) → ¬ (Reads policy y)) → IsTrue false ↔ ComparesRead Reads order left policy
  compares_none policy left none = (λ yes. cc, λ read. absurd (none read.0 read.1))

  -- and so are the texts
  pub compares_texts : (value policy : List ℕ) (left : ℤ) → Reads value left → (r : Bool) → IsTrue r ↔ ComparesRead Reads order left policy
      → IsTrue r ↔ ((x : ℤ) × (y : ℤ) × Reads value x × Reads policy y × Compares order x y)
  compares_texts value policy left is r says = (
    λ yes. let a = says.0 yes in (left, a.0, is, a.1, a.2),
    λ read. says.1 (read.1, read.3, subst (λ x. Compares order x read.1) (one value read.0 left read.2 is) read.4),
  )

-- by kind
module _ (compared : Kind) (value policy : List ℕ) (r : Bool) where
  by_kind : (k : Kind) → compared ≡ k → IsTrue r ↔ RelatesAs k value policy → IsTrue r ↔ RelatesAs compared value policy
  by_kind k e says = subst (λ (x : Kind). IsTrue r ↔ RelatesAs x value policy) (sym e) says

  pub by_number : (order : Order) (left : ℤ) → (compared ≡ kind.Number order) × IsNumber value left → IsTrue r ↔ ComparesRead IsNumber order left policy
      → IsTrue r ↔ RelatesAs compared value policy
  by_number order left is says = by_kind (kind.Number order) is.0 (compares_texts IsNumber one_number order value policy left is.1 r says)

  pub by_date : (order : Order) (left : ℤ) → (compared ≡ kind.Date order) × IsMoment value left → IsTrue r ↔ ComparesRead IsMoment order left policy
      → IsTrue r ↔ RelatesAs compared value policy
  by_date order left is says = by_kind (kind.Date order) is.0 (compares_texts IsMoment one_moment order value policy left is.1 r says)

  pub by_truth : (wanted : Bool) → (compared ≡ kind.Truth) × IsTruth value wanted → IsTrue r ↔ IsTruth policy wanted → IsTrue r ↔ RelatesAs compared value policy
  by_truth wanted is says =
      by_kind kind.Truth is.0 (
        λ yes. (wanted, is.1, says.0 yes),
        λ read. says.1 (subst (IsTruth policy) (one_truth value read.0 wanted read.1 is.1) read.2),
      )

  pub by_arn : (arn : ReadArn) → (compared ≡ kind.Arn) × IsCutInto 5 value (read_parts_of arn) → IsTrue r ↔ IsLikeParts arn policy → IsTrue r ↔ RelatesAs compared value policy
  by_arn arn is says =
      by_kind kind.Arn is.0 (
        λ yes. let a = says.0 yes in of_parts 5 value policy (read_parts_of arn) a.0 is.1 a.1 a.2,
        λ like. says.1 (by_parts 5 value policy (read_parts_of arn) is.1 like),
      )

-- the truth value of a text is the one that is wanted
pub truth_some : (policy : List ℕ) (truth wanted : Bool) → IsTruth policy truth → (r : Bool) → IsTrue r ↔ (truth ≡ wanted) → IsTrue r ↔ IsTruth policy wanted
truth_some policy truth wanted is r says = (λ yes. subst (IsTruth policy) (says.0 yes) is, λ also. says.1 (one_truth policy truth wanted is also))

-- the parts of a text
pub like_some : (arn : ReadArn) (policy : List ℕ) (parts : List (List ℕ)) → IsCutInto 5 policy parts → (r : Bool) → IsTrue r ↔ AllZip IsLike (read_parts_of arn) parts → IsTrue r ↔ IsLikeParts arn policy
like_some arn policy parts cut r says = (
  λ yes. (parts, cut, says.0 yes),
  λ like. says.1 (subst (AllZip IsLike (read_parts_of arn)) (one_cut_into 5 policy like.0 parts like.1 cut) like.2),
)

-- some of a run of texts has a property
module _ (P : List ℕ → Type 0) (Q : Type 0) (text : List ℕ) (rest others : List (List ℕ)) (next : rest ≡ text ∷ others) (so_far : Any P rest ↔ Q) where
  pub first_has : P text → Q
  first_has h = so_far.0 (subst (Any P) (sym next) (any_here P text others h))

  pub first_has_not : ¬ (P text) → Any P others ↔ Q
  first_has_not none = (
    λ any. so_far.0 (subst (Any P) (sym next) (any_there P text others any)),
    λ q. elim (any_of P text others (subst (Any P) next (so_far.1 q))) [ inl h ↦ absurd (none h) | inr any ↦ any ],
  )

pub none_has : (P : List ℕ → Type 0) (Q : Type 0) (rest : List (List ℕ)) → rest ≡ [] → Any P rest ↔ Q → ¬ Q
none_has P Q rest none so_far q = let any : Any P [] = subst (Any P) none (so_far.1 q) in absurd (omega (arith, any.2))

-- a text is among others
pub contains_any : (texts : List (List ℕ)) (text : List ℕ) → Any (λ (t : List ℕ). t ≡ text) texts ↔ Contains texts text
contains_any texts text = (
  λ any. (any.0, any.2, get_or_default texts any.0 text any.1 any.2 ∙ any.3 ∙ any.4),
  λ contains. (contains.0, text, contains.1, contains.2, refl),
)
