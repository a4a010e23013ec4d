-- What the bytes of a document are read as.
use Rattle.std.specs.Prelude.{◌≡◌, ◌<◌, ℕ, List, length, Some, IsUtf8, ⊤}
use Rattle.serde_json.specs.Data.{Data}
use Rattle.serde_json.specs.Read.{read as read_text}
use Rattle.policy_doc.specs.declared.faults.PolicyFault.{PolicyFault}
use Rattle.policy_doc.specs.declared.faults.PolicyFault.TheVariants as fault
use Rattle.policy_doc.specs.declared.policies.PolicyKind.{PolicyKind}
use Rattle.policy_doc.specs.Documents.{first_fault}

-- the bytes are JSON in UTF-8 of this value
abbrev pub Reads : List ℕ → Data → Type 0
Reads bytes d = IsUtf8 bytes × (read_text bytes ≡ Some d)

-- the bytes are no JSON
abbrev pub ReadsNothing : List ℕ → Type 0
ReadsNothing bytes = (d : Data) → ¬ (Reads bytes d)

-- the bytes have this fault: their length, no JSON, or the first fault of their value
abbrev pub IsFaultOf : PolicyKind → List ℕ → PolicyFault → Type 0
IsFaultOf kind bytes fault.TooLong = 32768 < length bytes
IsFaultOf kind bytes fault.NotJson = ReadsNothing bytes
IsFaultOf kind bytes (fault.BadShape path) = (d : Data) × Reads bytes d × (first_fault kind d ≡ Some (fault.BadShape path))
IsFaultOf kind bytes (fault.Unsupported path) = (d : Data) × Reads bytes d × (first_fault kind d ≡ Some (fault.Unsupported path))
IsFaultOf kind bytes fault.NoMemory = ⊤
