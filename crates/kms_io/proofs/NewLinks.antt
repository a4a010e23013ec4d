-- Connections in memory of which nothing was taken or written.
use Rattle.std.proofs.Common.{◌≡◌, ◌+◌, ◌<◌, ◌≤◌, ℕ, zero, suc, slice_set, ap, List, [], ◌∷◌, length, drop, IsTrue, Option, Some, None, IfSome, slice_index_or, refl, sym, subst, add-one, arith}
use Rattle.std.proofs.Math.ListN.{length-set}
use Rattle.std.proofs.lemmas.Bool.Decides.{nat_tests}
use Rattle.kms_io.specs.Wire.{Wire}
use Rattle.kms_io.specs.MemoryLink.{wire_of}
use Rattle.kms_io.specs.NewLinks.{is_empty_where_told, is_new_wire, are_new_links}
use Rattle.kms_io.specs.Ear.{IsNewWire}
use Rattle.kms_io.specs.declared.memory_link.MemoryLink.{MemoryLink}

empty_where_told : {X : Type 0} (told : Option (List X)) → IsTrue (is_empty_where_told told) → IfSome told (λ all. all ≡ [])
empty_where_told None h = tt
empty_where_told (Some []) h = refl
empty_where_told (Some (x ∷ xs)) h = absurd (cc)

pub new_wire : (wire : Wire) → IsTrue (is_new_wire wire) → IsNewWire wire
new_wire wire h = record {
  taken = empty_where_told wire.taken (grind (arith, nat_tests));
  written = empty_where_told wire.written (grind (arith, nat_tests));
  moves = empty_where_told wire.moves (grind (arith, nat_tests));
  read_faults = grind (arith, nat_tests);
  write_faults = grind (arith, nat_tests);
}

-- the first of those that are still new
pub new_at : (links : List MemoryLink) (k : ℕ) (link : MemoryLink) → k < length links → link ≡ slice_index_or links k link → IsTrue (are_new_links (drop k links)) → IsTrue (is_new_wire (wire_of link))
new_at [] k link inside is h = absurd (omega arith)
new_at (first ∷ links) zero link inside is h = rw is (grind (arith, nat_tests))
new_at (first ∷ links) (suc k) link inside is h = new_at links k link (omega arith) is h

waiting_suc : (links : List MemoryLink) (k : ℕ) (link other : MemoryLink) → k < length links → link ≡ slice_index_or links k link → drop k links ≡ link ∷ drop (suc k) (slice_set links k other)
waiting_suc [] k link other inside is = absurd (omega arith)
waiting_suc (first ∷ links) zero link other inside is = ap (λ x. x ∷ links) (sym is)
waiting_suc (first ∷ links) (suc k) link other inside is = waiting_suc links k link other (omega arith) is

-- a place that is written stays within the list
pub within : (links : List MemoryLink) (k : ℕ) (other : MemoryLink) → k < length links → k + 1 ≤ length (slice_set links k other)
within links k other inside = rw length-set (omega arith)

-- the first of those that wait, and the others
pub waiting_next : (links : List MemoryLink) (k : ℕ) (link other : MemoryLink) → k < length links → link ≡ slice_index_or links k link → drop k links ≡ link ∷ drop (k + 1) (slice_set links k other)
waiting_next links k link other inside is = rw add-one (waiting_suc links k link other inside is)

-- those after the first of those that are still new
pub new_after : (links : List MemoryLink) (link : MemoryLink) (rest : List MemoryLink) → links ≡ link ∷ rest → IsTrue (are_new_links links) → IsTrue (are_new_links rest)
new_after links link rest is h =
    let both : IsTrue (are_new_links (link ∷ rest)) = subst (λ all. IsTrue (are_new_links all)) is h in
    grind (arith, nat_tests)
