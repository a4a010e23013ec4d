-- Places compared.
use Rattle.std.proofs.Common.{◌≡◌, ℕ, ◌<◌, Bool, true, false, cond, refl, sym, subst, arith}
use Rattle.std.specs.Prelude.{nat_lt, ◌==◌}
use Rattle.std.specs.Ordering.{nat_cmp, MatchOrdering}
use Rattle.std.specs.declared.cmp.Ordering.{Ordering}
use Rattle.std.specs.declared.cmp.Ordering.TheVariants.{Less, Equal, Greater}
use Rattle.std.proofs.lemmas.Bool.Decides.{nat_tests}

tested : (x y : ℕ) (lt eq : Bool) → nat_lt x y ≡ lt → (x == y) ≡ eq → MatchOrdering (cond lt Less (cond eq Equal Greater)) (x < y) (x ≡ y) (y < x)
tested x y true eq l e = grind (arith, nat_tests, l)
tested x y false true l e = grind (arith, nat_tests, e)
tested x y false false l e = grind (arith, nat_tests, l, e)

ranks : (x y : ℕ) → MatchOrdering (nat_cmp x y) (x < y) (x ≡ y) (y < x)
ranks x y = tested x y (nat_lt x y) (x == y) refl refl

pub equal_places : (b place : ℕ) → nat_cmp b place ≡ Equal → b ≡ place
equal_places b place e = subst (λ (r : Ordering). MatchOrdering r (b < place) (b ≡ place) (place < b)) e (ranks b place)

pub lower_place : (b place : ℕ) → nat_cmp b place ≡ Less → b < place
lower_place b place e = subst (λ (r : Ordering). MatchOrdering r (b < place) (b ≡ place) (place < b)) e (ranks b place)

pub higher_place : (b place : ℕ) → nat_cmp b place ≡ Greater → place < b
higher_place b place e = subst (λ (r : Ordering). MatchOrdering r (b < place) (b ≡ place) (place < b)) e (ranks b place)

by_rank : (o : Ordering) (x y : ℕ) → MatchOrdering o (x < y) (x ≡ y) (y < x) → x < y → o ≡ Less
by_rank Less x y is lt = refl
by_rank Equal x y is lt = absurd (omega (arith, is, lt))
by_rank Greater x y is lt = absurd (omega (arith, is, lt))

pub below_is_less : (x y : ℕ) → x < y → nat_cmp x y ≡ Less
below_is_less x y lt = by_rank (nat_cmp x y) x y (ranks x y) lt

above_rank : (o : Ordering) (x y : ℕ) → MatchOrdering o (x < y) (x ≡ y) (y < x) → y < x → o ≡ Greater
above_rank Less x y is lt = absurd (omega (arith, is, lt))
above_rank Equal x y is lt = absurd (omega (arith, is, lt))
above_rank Greater x y is lt = refl

pub above_is_greater : (x y : ℕ) → y < x → nat_cmp x y ≡ Greater
above_is_greater x y lt = above_rank (nat_cmp x y) x y (ranks x y) lt

same_rank : (o : Ordering) (x y : ℕ) → MatchOrdering o (x < y) (x ≡ y) (y < x) → x ≡ y → o ≡ Equal
same_rank Less x y is e = absurd (omega (arith, is, e))
same_rank Equal x y is e = refl
same_rank Greater x y is e = absurd (omega (arith, is, e))

pub itself : (x y : ℕ) → x ≡ y → nat_cmp x y ≡ Equal
itself x y e = same_rank (nat_cmp x y) x y (ranks x y) e
