-- Some item of a list, and of a longer list.
use Rattle.std.proofs.Common.{◌⊎◌, inl, inr, List, [], ◌∷◌, ◌++◌, arith}
use Rattle.std.specs.Prelude.{◌↔◌, IsTrue, Bool, Any}
use Rattle.kms_names.proofs.Decisions.{any_here, any_there, any_of}

module _ {X : Type 0} (P : X → Type 0) where
  pub any_split : (xs : List X) (y : X) → Any P (xs ++ y ∷ []) → Any P xs ⊎ P y
  any_split [] y any = elim (any_of P y [] any) [ inl h ↦ inr h | inr (k, x, lt, at, h) ↦ absurd (omega arith) ]
  any_split (x ∷ xs) y any =
      elim (any_of P x (xs ++ y ∷ []) any) [
        | inl h ↦ inl (any_here P x xs h)
        | inr rest ↦ elim (any_split xs y rest) [ inl old ↦ inl (any_there P x xs old) | inr new ↦ inr new ]
      ]

  pub any_front : (xs : List X) (y : X) → Any P xs → Any P (xs ++ y ∷ [])
  any_front [] y any = absurd (omega arith)
  any_front (x ∷ xs) y any =
      elim (any_of P x xs any) [
        | inl h ↦ any_here P x (xs ++ y ∷ []) h
        | inr rest ↦ any_there P x (xs ++ y ∷ []) (any_front xs y rest)
      ]

  pub any_last : (xs : List X) (y : X) → P y → Any P (xs ++ y ∷ [])
  any_last [] y h = any_here P y [] h
  any_last (x ∷ xs) y h = any_there P x (xs ++ y ∷ []) (any_last xs y h)

-- two facts that hold of the same items
module _ {X : Type 0} (P Q : X → Type 0) (to : (x : X) → P x → Q x) (back : (x : X) → Q x → P x) where
  pub any_same : (xs : List X) (b : Bool) → IsTrue b ↔ Any P xs → IsTrue b ↔ Any Q xs
  any_same xs b says = (
    λ t. let any = says.0 t in (any.0, any.1, any.2, any.3, to any.1 any.4),
    λ any. says.1 (any.0, any.1, any.2, any.3, back any.1 any.4),
  )
