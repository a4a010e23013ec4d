-- Ears in memory that have given no connection.
use Rattle.std.proofs.Common.{◌≡◌, ℕ, zero, suc, List, [], ◌∷◌, take, drop, IsTrue, Bool, true, false, not, Option, Some, None, IfSome, refl, arith}
use Rattle.std.specs.List.{All}
use Rattle.std.proofs.lemmas.Bool.Decides.{nat_tests}
use Rattle.std.proofs.lemmas.List.Elements.{All-take}
use Rattle.kms_io.specs.Wire.{Wire}
use Rattle.kms_io.specs.Listening.{Listening}
use Rattle.kms_io.specs.MemoryEar.{listening_of}
use Rattle.kms_io.specs.NewEars.{is_none_where_told, is_new_listening, are_new_ears}
use Rattle.kms_io.specs.Door.{IsNewEar}
use Rattle.kms_io.specs.declared.memory_ear.MemoryEar.{MemoryEar}

none_where_told : (told : Option (List Wire)) → IsTrue (is_none_where_told told) → IfSome told (λ all. all ≡ [])
none_where_told None h = tt
none_where_told (Some []) h = refl
none_where_told (Some (x ∷ xs)) h = absurd (cc)

is_in : (is_out : Bool) → IsTrue (not is_out) → is_out ≡ false
is_in false h = refl
is_in true h = absurd (cc)

new_ear : (ear : Listening) → IsTrue (is_new_listening ear) → IsNewEar ear
new_ear ear h = record {
  faults = grind (arith, nat_tests);
  is_in = is_in ear.is_out (grind (arith, nat_tests));
  given_back = none_where_told ear.given_back (grind (arith, nat_tests));
}

each_new : (ears : List MemoryEar) → IsTrue (are_new_ears ears) → All (λ ear. IsNewEar (listening_of ear)) ears
each_new [] h k d inside = absurd (omega arith)
each_new (ear ∷ ears) h zero d inside = new_ear (listening_of ear) (grind (arith, nat_tests))
each_new (ear ∷ ears) h (suc k) d inside = each_new ears (grind (arith, nat_tests)) k d (omega arith)

-- the first n are new
pub new_first : (ears : List MemoryEar) (n : ℕ) → IsTrue (are_new_ears ears) → All (λ ear. IsNewEar (listening_of ear)) (take n ears)
new_first ears n h = All-take (λ ear. IsNewEar (listening_of ear)) n ears (each_new ears h)

-- those after the first n are new
pub new_rest : (ears : List MemoryEar) (n : ℕ) → IsTrue (are_new_ears ears) → IsTrue (are_new_ears (drop n ears))
new_rest ears zero h = h
new_rest [] (suc n) h = h
new_rest (ear ∷ ears) (suc n) h = new_rest ears n (grind (arith, nat_tests))
