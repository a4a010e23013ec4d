-- Runs of marks beside what they are marks of.
use Rattle.std.proofs.Common.{◌≡◌, ◌⊎◌, inl, inr, ⊎_elim, ℕ, ◌<◌, ◌+◌, Bool, List, [], ◌∷◌, ◌++◌, length, map, take, get_or, refl, sym, ap, ap₂, ◌∙◌, subst, append_assoc, arith}
use Rattle.std.specs.Prelude.{◌↔◌, Any}
use Rattle.std.specs.List.{flat_map}
use Rattle.std.proofs.lemmas.List.{take_more}
use Rattle.kms_names.proofs.Decisions.{any_here, any_there, any_of}
use Rattle.cond_ops.specs.declared.facts.RequestFacts.{RequestFacts}
use Rattle.policy_doc.specs.declared.policies.PolicyKind.{PolicyKind}
use Rattle.policy_doc.specs.declared.policies.Statement.{Statement}
use Rattle.access_explain.specs.declared.marks.Mark.{Mark}
use Rattle.access_explain.specs.declared.runs.Marked.{Marked}
use Rattle.access_explain.specs.Runs.{OneByOne, SomeIs}
use Rattle.access_explain.specs.Tests.{IsMarkBy, IsRunOf, SomeMarked}

-- the first items with one more
pub take_one : {X : Type 0} (xs : List X) (i : ℕ) (x : X) → i < length xs → x ≡ get_or xs i x → take (i + 1) xs ≡ take i xs ++ x ∷ []
take_one xs i x within is = take_more xs i x within ∙ ap (λ y. take i xs ++ y ∷ []) (sym is)

module _ {X Y : Type 0} (R : X → Y → Type 0) where
  pub one_more : (xs : List X) (ys : List Y) (x : X) (y : Y) → OneByOne R xs ys → R x y → OneByOne R (xs ++ x ∷ []) (ys ++ y ∷ [])
  one_more [] [] x y all is = (is, tt)
  one_more [] (v ∷ ys) x y all is = absurd all
  one_more (u ∷ xs) [] x y all is = absurd all
  one_more (u ∷ xs) (v ∷ ys) x y all is = (all.0, one_more xs ys x y all.1 is)

  -- an item more on both sides, where the first list goes on from others
  pub one_further : (before xs : List X) (i : ℕ) (x : X) (ys zs : List Y) (y : Y) → i < length xs → x ≡ get_or xs i x → zs ≡ ys ++ y ∷ [] → R x y
      → OneByOne R (before ++ take i xs) ys → OneByOne R (before ++ take (i + 1) xs) zs
  one_further before xs i x ys zs y within is pushed related all =
      let longer : (before ++ take i xs) ++ x ∷ [] ≡ before ++ take (i + 1) xs = append_assoc before (take i xs) (x ∷ []) ∙ ap (λ l. before ++ l) (sym (take_one xs i x within is)) in
      subst (λ l. OneByOne R (before ++ take (i + 1) xs) l) (sym pushed) (subst (λ l. OneByOne R l (ys ++ y ∷ [])) longer (one_more (before ++ take i xs) ys x y all related))

  -- where each has one, there is one list
  pub one_list : ((x : X) (m n : Y) → R x m → R x n → m ≡ n) → (xs : List X) (ms ns : List Y) → OneByOne R xs ms → OneByOne R xs ns → ms ≡ ns
  one_list one [] [] [] p q = refl
  one_list one [] [] (n ∷ ns) p q = absurd q
  one_list one [] (m ∷ ms) ns p q = absurd p
  one_list one (x ∷ xs) [] ns p q = absurd p
  one_list one (x ∷ xs) (m ∷ ms) [] p q = absurd q
  one_list one (x ∷ xs) (m ∷ ms) (n ∷ ns) p q = ap₂ (λ y ys. y ∷ ys) (one x m n p.0 q.0) (one_list one xs ms ns p.1 q.1)

-- ---- a run without effects

module _ (kind : PolicyKind) (request : RequestFacts) where
  pub marks_alone : (ss : List Statement) (run : List Marked) → IsRunOf kind request ss run → OneByOne (λ s m. IsMarkBy kind s request m) ss (map (λ (m : Marked). m.mark) run)
  marks_alone [] [] all = tt
  marks_alone [] (m ∷ run) all = absurd all
  marks_alone (s ∷ ss) [] all = absurd all
  marks_alone (s ∷ ss) (m ∷ run) all = (all.0.1, marks_alone ss run all.1)

  module _ (allow : Bool) (mark : Mark) where
    abbrev Has : Marked → Type 0
    Has m = (m.allow ≡ allow) × (m.mark ≡ mark)

    pub some_alone : (ss : List Statement) (run : List Marked) → IsRunOf kind request ss run → SomeMarked allow mark run ↔ SomeIs allow mark ss (map (λ (m : Marked). m.mark) run)
    some_alone [] [] all = (λ any. absurd (omega (arith, any.2)), λ bad. absurd bad)
    some_alone [] (m ∷ run) all = absurd all
    some_alone (s ∷ ss) [] all = absurd all
    some_alone (s ∷ ss) (m ∷ run) all =
        let later = some_alone ss run all.1 in (
          λ any. ⊎_elim (λ is. inl (sym all.0.0 ∙ is.0, is.1)) (λ there. inr (later.0 there)) (any_of Has m run any),
          λ some. ⊎_elim (λ is. any_here Has m run (all.0.0 ∙ is.0, is.1)) (λ there. any_there Has m run (later.1 there)) some,
        )

-- ---- a statement with an effect and a mark

module _ (IsM : Statement → Mark → Type 0) (one : (s : Statement) (m n : Mark) → IsM s m → IsM s n → m ≡ n) (allow : Bool) (mark : Mark) (P : Statement → Type 0)
    (is : (s : Statement) → ((s.allow ≡ allow) × IsM s mark) ↔ P s) where
  pub some_tells : (ss : List Statement) (ms : List Mark) → OneByOne IsM ss ms → SomeIs allow mark ss ms ↔ Any P ss
  some_tells [] [] all = (λ bad. absurd bad, λ any. absurd (omega (arith, any.2)))
  some_tells [] (m ∷ ms) all = absurd all
  some_tells (s ∷ ss) [] all = absurd all
  some_tells (s ∷ ss) (m ∷ ms) all =
      let later = some_tells ss ms all.1 in (
        λ some. ⊎_elim (λ here. any_here P s ss ((is s).0 (here.0, subst (IsM s) here.1 all.0))) (λ there. any_there P s ss (later.0 there)) some,
        λ any. ⊎_elim (λ p. let both = (is s).1 p in inl (both.0, one s m mark all.0 both.1)) (λ there. inr (later.1 there)) (any_of P s ss any),
      )

-- ---- documents one after another

module _ {X : Type 0} (P : X → Type 0) where
  any_left : (xs ys : List X) → Any P xs → Any P (xs ++ ys)
  any_left [] ys any = absurd (omega (arith, any.2))
  any_left (x ∷ xs) ys any = ⊎_elim (λ p. any_here P x (xs ++ ys) p) (λ there. any_there P x (xs ++ ys) (any_left xs ys there)) (any_of P x xs any)

  any_right : (xs ys : List X) → Any P ys → Any P (xs ++ ys)
  any_right [] ys any = any
  any_right (x ∷ xs) ys any = any_there P x (xs ++ ys) (any_right xs ys any)

  any_either : (xs ys : List X) → Any P (xs ++ ys) → Any P xs ⊎ Any P ys
  any_either [] ys any = inr any
  any_either (x ∷ xs) ys any =
      ⊎_elim (λ p. inl (any_here P x xs p)) (λ there. ⊎_elim (λ l. inl (any_there P x xs l)) (λ r. inr r) (any_either xs ys there)) (any_of P x (xs ++ ys) any)

  pub any_flat : {D : Type 0} (f : D → List X) (ds : List D) → Any P (flat_map f ds) ↔ Any (λ d. Any P (f d)) ds
  any_flat f [] = (λ any. absurd (omega (arith, any.2)), λ any. absurd (omega (arith, any.2)))
  any_flat f (d ∷ ds) =
      let later = any_flat f ds in (
        λ any. ⊎_elim (λ l. any_here (λ d. Any P (f d)) d ds l) (λ r. any_there (λ d. Any P (f d)) d ds (later.0 r)) (any_either (f d) (flat_map f ds) any),
        λ any. ⊎_elim (λ l. any_left (f d) (flat_map f ds) l) (λ r. any_right (f d) (flat_map f ds) (later.1 r)) (any_of (λ d. Any P (f d)) d ds any),
      )
