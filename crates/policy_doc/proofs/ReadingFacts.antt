-- What is answered of the bytes of a document, from what is answered of their value.
use Rattle.std.proofs.Common.{◌≡◌, ◌≢◌, ℕ, ◌<◌, ◌≤◌, ◌↔◌, List, length, Result, Ok, Err, Some, subst, arith}
use Rattle.std.specs.Prelude.{IfOk, IfErr, IfSome}
use Rattle.serde_json.specs.Data.{Data}
use Rattle.policy_doc.specs.declared.faults.PolicyFault.{PolicyFault}
use Rattle.policy_doc.specs.declared.faults.PolicyFault.TheVariants as fault
use Rattle.policy_doc.specs.declared.policies.Policy.{Policy}
use Rattle.policy_doc.specs.declared.policies.PolicyKind.{PolicyKind}
use Rattle.policy_doc.specs.Documents.{first_fault}
use Rattle.policy_doc.specs.Grammar.{IsPolicyOf}
use Rattle.policy_doc.specs.Pointers.{IsAtPlace}
use Rattle.policy_doc.specs.Reading.{Reads, IsFaultOf}
use Rattle.policy_doc.proofs.PlaceFacts.{at_place}

place_of : (kind : PolicyKind) (d : Data) (e : PolicyFault) → first_fault kind d ≡ Some e → IsAtPlace d e
place_of kind d e is = let at : IfSome (Some e) (IsAtPlace d) = subst (λ o. IfSome o (IsAtPlace d)) is (at_place kind d) in at

pub fault_of : (kind : PolicyKind) (bytes : List ℕ) (d : Data) (e : PolicyFault) → Reads bytes d → (e ≢ fault.NoMemory → first_fault kind d ≡ Some e) → IsFaultOf kind bytes e
fault_of kind bytes d fault.TooLong reads first = absurd (place_of kind d fault.TooLong (first (λ e. let bad : fault.TooLong ≡ fault.NoMemory = e in cc)))
fault_of kind bytes d fault.NotJson reads first = absurd (place_of kind d fault.NotJson (first (λ e. let bad : fault.NotJson ≡ fault.NoMemory = e in cc)))
fault_of kind bytes d (fault.BadShape path) reads first = (d, reads, first (λ e. let bad : fault.BadShape path ≡ fault.NoMemory = e in cc))
fault_of kind bytes d (fault.Unsupported path) reads first = (d, reads, first (λ e. let bad : fault.Unsupported path ≡ fault.NoMemory = e in cc))
fault_of kind bytes d fault.NoMemory reads first = tt

abbrev pub Answered : PolicyKind → List ℕ → Result Policy PolicyFault → Type 0
Answered kind bytes r =
    ((r ≡ Err fault.TooLong) ↔ (32768 < length bytes))
    × IfOk r (λ p. (p.kind ≡ kind) × ((d : Data) × Reads bytes d × IsPolicyOf kind d p.statements))
    × IfErr r (IsFaultOf kind bytes)

not_long : (kind : PolicyKind) (bytes : List ℕ) (r : Result Policy PolicyFault) → length bytes ≤ 32768 → IfErr r (IsFaultOf kind bytes) → (r ≡ Err fault.TooLong) ↔ (32768 < length bytes)
not_long kind bytes r short faults = (λ e. let long : IfErr {T = Policy} (Err fault.TooLong) (IsFaultOf kind bytes) = subst (λ r. IfErr r (IsFaultOf kind bytes)) e faults in long, λ long. absurd (omega arith))

pub answered_of_value : (kind : PolicyKind) (bytes : List ℕ) (d : Data) (r : Result Policy PolicyFault) → length bytes ≤ 32768 → Reads bytes d
    → IfOk r (λ p. (p.kind ≡ kind) × IsPolicyOf kind d p.statements) → IfErr r (λ e. e ≢ fault.NoMemory → first_fault kind d ≡ Some e) → Answered kind bytes r
answered_of_value kind bytes d (Ok p) short reads ok first = (not_long kind bytes (Ok p) short tt, (ok.0, (d, reads, ok.1)), tt)
answered_of_value kind bytes d (Err e) short reads ok first = let is = fault_of kind bytes d e reads first in (not_long kind bytes (Err e) short is, tt, is)
