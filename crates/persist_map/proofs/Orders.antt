-- Keys in order, and lists of pairs that ascend.
use Rattle.std.proofs.Common.{◌≡◌, zero, suc, Bool, true, false, List, [], ◌∷◌, ◌++◌, get_or, refl, sym, ap, ◌∙◌, subst, ltb, arith}
use Rattle.std.proofs.lemmas.Bool.{false≢true}
use borrow.Author.Tests.{ltb-true, ltb-false}
use Rattle.std.proofs.lemmas.Cmp.{alike_right}
use Rattle.std.proofs.lemmas.List.Elements.{All-from_recursion, recursion_from_All}
use Rattle.std.specs.Cmp.{IsTotalOrder}
use Rattle.std.specs.List.{AllByRecursion}
use Rattle.std.specs.List.Sorted.{IsPartitionedBy}
use Rattle.std.specs.declared.cmp.Ordering.{Ordering}
use Rattle.std.specs.declared.cmp.Ordering.TheVariants.{Less, Equal, Greater}
use Rattle.std.specs.Ordering.{is_lt, is_eq, is_gt, ordering_reverse}
use Rattle.persist_map.specs.Pairs.{Ascends, is_below}

-- what a test of an answer says
pub less : (o : Ordering) → is_lt o ≡ true → o ≡ Less
less Less e = refl
less Equal e = absurd (false≢true e)
less Greater e = absurd (false≢true e)

pub greater : (o : Ordering) → is_gt o ≡ true → o ≡ Greater
greater Less e = absurd (false≢true e)
greater Equal e = absurd (false≢true e)
greater Greater e = refl

pub equal : (o : Ordering) → is_eq o ≡ true → o ≡ Equal
equal Less e = absurd (false≢true e)
equal Equal e = refl
equal Greater e = absurd (false≢true e)

pub greater_otherwise : (o : Ordering) → is_lt o ≡ false → is_eq o ≡ false → o ≡ Greater
greater_otherwise Less e f = absurd (false≢true (sym e))
greater_otherwise Equal e f = absurd (false≢true (sym f))
greater_otherwise Greater e f = refl

module _ {K : Type 0} {cmp : K → K → Ordering} (order : IsTotalOrder cmp) where
  pub turned_less : (x y : K) → cmp x y ≡ Less → cmp y x ≡ Greater
  turned_less x y e = order.antisymm y x ∙ ap ordering_reverse e

  pub turned_greater : (x y : K) → cmp x y ≡ Greater → cmp y x ≡ Less
  turned_greater x y e = order.antisymm y x ∙ ap ordering_reverse e

  -- above what is above, or is, the key
  pub greater_later : (x y key : K) → cmp x y ≡ Less → is_lt (cmp x key) ≡ false → cmp y key ≡ Greater
  greater_later x y key before e =
      turned_less key y (by_order (cmp x key) refl)
    where
      by_order : (o : Ordering) → cmp x key ≡ o → cmp key y ≡ Less
      by_order Less f = absurd (false≢true (sym e ∙ ap is_lt f))
      by_order Equal f = sym (order.congr x key y f) ∙ before
      by_order Greater f = order.trans key x y (turned_greater x key f) before

  -- below what is below, or is, the key
  pub less_before : (x y key : K) → cmp x y ≡ Less → is_gt (cmp y key) ≡ false → cmp x key ≡ Less
  less_before x y key before e = by_order (cmp y key) refl
    where
      by_order : (o : Ordering) → cmp y key ≡ o → cmp x key ≡ Less
      by_order Less f = order.trans x y key before f
      by_order Equal f = sym (alike_right order y key x f) ∙ before
      by_order Greater f = absurd (false≢true (sym e ∙ ap is_gt f))

-- each pair is below those behind it, by recursion
module _ {K V : Type 0} (cmp : K → K → Ordering) where
  abbrev pub Precedes : K × V → K × V → Type 0
  Precedes pair later = cmp pair.0 later.0 ≡ Less

  abbrev pub Rises : List (K × V) → Type 0
  Rises [] = Unit {0}
  Rises (pair ∷ pairs) = AllByRecursion (Precedes pair) pairs × Rises pairs

  pub Rises-from_ascends : (pairs : List (K × V)) → Ascends cmp pairs → Rises pairs
  Rises-from_ascends [] up = tt
  Rises-from_ascends (pair ∷ pairs) up = (
    recursion_from_All (Precedes pair) pairs (λ k d h. up 0 (suc k) d (omega arith) (omega arith)),
    Rises-from_ascends pairs (λ i j d h k. up (suc i) (suc j) d (omega arith) (omega arith)),
  )

  pub Ascends-from_rises : (pairs : List (K × V)) → Rises pairs → Ascends cmp pairs
  Ascends-from_rises [] up i j d h k = absurd (omega arith)
  Ascends-from_rises (pair ∷ pairs) up i zero d h k = absurd (omega arith)
  Ascends-from_rises (pair ∷ pairs) up zero (suc j) d h k = All-from_recursion (Precedes pair) pairs up.0 j d (omega arith)
  Ascends-from_rises (pair ∷ pairs) up (suc i) (suc j) d h k = Ascends-from_rises pairs up.1 i j d (omega arith) (omega arith)

  pub pairs_parted : IsTotalOrder cmp → (key : K) (pairs : List (K × V)) → Ascends cmp pairs → IsPartitionedBy (is_below cmp key) pairs
  pairs_parted order key pairs up i j d le in_range below = by_lt (ltb i j) refl
    where
      by_lt : (b : Bool) → ltb i j ≡ b → is_below cmp key (get_or pairs i d) ≡ true
      by_lt true e = ap is_lt (order.trans _ _ key (up i j d (ltb-true i j e) in_range) (less _ below))
      by_lt false e = subst (λ k. is_below cmp key (get_or pairs k d) ≡ true) {x = j} {y = i} (omega (arith, ltb-false i j e)) below

  -- each of the first pairs is below each of the others
  abbrev pub Before : List (K × V) → List (K × V) → Type 0
  Before front back = AllByRecursion (λ pair. AllByRecursion (Precedes pair) back) front

  pub every_front : (P : K × V → Type 0) (front back : List (K × V)) → AllByRecursion P (front ++ back) → AllByRecursion P front
  every_front P [] back h = tt
  every_front P (pair ∷ pairs) back h = (h.0, every_front P pairs back h.1)

  pub every_back : (P : K × V → Type 0) (front back : List (K × V)) → AllByRecursion P (front ++ back) → AllByRecursion P back
  every_back P [] back h = h
  every_back P (pair ∷ pairs) back h = every_back P pairs back h.1

  pub every_both : (P : K × V → Type 0) (front back : List (K × V)) → AllByRecursion P front → AllByRecursion P back → AllByRecursion P (front ++ back)
  every_both P [] back h k = k
  every_both P (pair ∷ pairs) back h k = (h.0, every_both P pairs back h.1 k)

  pub every_weaker : (P Q : K × V → Type 0) → ((pair : K × V) → P pair → Q pair) → (pairs : List (K × V)) → AllByRecursion P pairs → AllByRecursion Q pairs
  every_weaker P Q f [] h = tt
  every_weaker P Q f (pair ∷ pairs) h = (f pair h.0, every_weaker P Q f pairs h.1)

  pub rises_front : (front back : List (K × V)) → Rises (front ++ back) → Rises front
  rises_front [] back up = tt
  rises_front (pair ∷ pairs) back up = (every_front (Precedes pair) pairs back up.0, rises_front pairs back up.1)

  pub rises_back : (front back : List (K × V)) → Rises (front ++ back) → Rises back
  rises_back [] back up = up
  rises_back (pair ∷ pairs) back up = rises_back pairs back up.1

  pub rises_between : (front back : List (K × V)) → Rises (front ++ back) → Before front back
  rises_between [] back up = tt
  rises_between (pair ∷ pairs) back up = (every_back (Precedes pair) pairs back up.0, rises_between pairs back up.1)

  pub rises_both : (front back : List (K × V)) → Rises front → Rises back → Before front back → Rises (front ++ back)
  rises_both [] back up later between = later
  rises_both (pair ∷ pairs) back up later between = (every_both (Precedes pair) pairs back up.0 between.0, rises_both pairs back up.1 later between.1)

module _ {K V : Type 0} {cmp : K → K → Ordering} (order : IsTotalOrder cmp) (pair : K × V) where
  every_with : (P : K × V → Type 0) (front back : List (K × V)) → P pair → AllByRecursion P (front ++ back) → AllByRecursion P (front ++ (pair ∷ back))
  every_with P [] back h k = (h, k)
  every_with P (other ∷ others) back h k = (k.0, every_with P others back h k.1)

  -- a pair between those below it and those above it
  pub rises_with : (front back : List (K × V)) → Rises cmp (front ++ back) → AllByRecursion (λ other. cmp other.0 pair.0 ≡ Less) front → AllByRecursion (λ other. cmp other.0 pair.0 ≡ Greater) back → Rises cmp (front ++ (pair ∷ back))
  rises_with [] back up below above = (every_weaker cmp (λ other. cmp other.0 pair.0 ≡ Greater) (Precedes cmp pair) (λ other e. turned_greater order other.0 pair.0 e) back above, up)
  rises_with (other ∷ others) back up below above = (every_with (Precedes cmp other) others back below.0 up.0, rises_with others back up.1 below.1 above)
