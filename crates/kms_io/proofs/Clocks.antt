-- What a clock in memory tells after one more call.
use Rattle.std.proofs.Common.{◌≡◌, ◌+◌, ◌<◌, min, ℕ, zero, suc, IsTrue, slice_index, List, [], ◌∷◌, None, Some, Bool, true, false, nat_lt, if◌then◌else◌, refl, ◌∙◌, arith, add-one}
use Rattle.std.proofs.lemmas.Bool.Decides.{nat_tests}
use Rattle.kms_io.specs.Wire.{TellsMore}
use Rattle.kms_io.specs.Clock.{first_of, told_so_far, are_times}

-- by cases on the two tests
tells_where : (before after : Bool) (answer : ℕ → ℕ) (calls next result : ℕ) → (after ≡ true → (before ≡ true) × (next ≡ calls + 1)) → result ≡ answer calls
    → TellsMore (if before then Some (first_of answer calls) else None) (result ∷ []) (if after then Some (first_of answer next) else None)
tells_where before false answer calls next result h is = tt
tells_where false true answer calls next result h is = let no : false ≡ true = (h refl).0 in cc
tells_where true true answer calls next result h is =
    let now : next ≡ suc calls = (h refl).1 ∙ add-one calls in
    rw (now, is)

within : (calls next : ℕ) → next ≡ min (calls + 1) 18446744073709551615 → nat_lt (next + 1) 18446744073709551616 ≡ true → (nat_lt (calls + 1) 18446744073709551616 ≡ true) × (next ≡ calls + 1)
within calls next is small =
    let lt : next + 1 < 18446744073709551616 = grind (arith, nat_tests) in
    let now : next ≡ calls + 1 = omega arith in
    (grind (arith, nat_tests), now)

-- one more call, of a counter that stands still at its end
pub tells_next : (answer : ℕ → ℕ) (calls next result : ℕ) → next ≡ min (calls + 1) 18446744073709551615 → result ≡ answer calls
    → TellsMore (told_so_far answer calls) (result ∷ []) (told_so_far answer next)
tells_next answer calls next result is value = tells_where _ _ answer calls next result (within calls next is) value

-- each answer of a list of times is a time
pub time_at : (answers : List ℕ) (k : ℕ) → IsTrue (are_times answers) → slice_index answers k < 253402300800
time_at [] k h = omega arith
time_at (answer ∷ answers) zero h = grind (arith, nat_tests)
time_at (answer ∷ answers) (suc k) h = time_at answers k (grind (arith, nat_tests))
