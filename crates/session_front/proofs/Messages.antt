-- How long a buffer is.
use Rattle.std.proofs.Common.{◌≡◌, ◌<◌, ℕ, List, ◌++◌, length, sym, arith}
use Rattle.std.proofs.Common.{Bool, true, false, ◌||◌, ◌+◌, ◌==◌, suc, subst}
use Rattle.std.proofs.lemmas.Bool.Decides.{nat_tests}
use Rattle.http_front.specs.Message.{Awaits}
use Rattle.http_front.proofs.Answering.{whole_fits, whole_more, awaits_more}

pub awaited_fits : {bytes : List ℕ} {whole : ℕ} → Awaits bytes whole → length bytes < 147456
awaited_fits a = omega (arith, whole_fits a, whole_more a)

-- where fewer have come than are awaited
pub awaited_on : {bytes all : List ℕ} {whole : ℕ} (piece : List ℕ) → Awaits bytes whole → all ≡ bytes ++ piece → length all < whole → Awaits all whole
awaited_on {bytes} {all} {whole} piece a grows short =
    subst (λ (now : List ℕ). Awaits now whole) (sym grows) (awaits_more piece a (subst (λ (now : List ℕ). length now < whole) grows short))

not_empty : (n : ℕ) → true ≡ (suc n == 0) → ⊥
not_empty n is = grind (arith, nat_tests)

positive : (n : ℕ) → false ≡ (n == 0) → 0 < n
positive n is = grind (arith, nat_tests)

pub not_last : (closed : Bool) (number : ℕ) → false ≡ (closed || (number + 1 == 100000)) → number < 100000 → number + 1 < 100000
not_last true number is few = cc
not_last false number is few = grind (arith, nat_tests)
