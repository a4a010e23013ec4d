-- JSON pointers (RFC 6901), and the faults that they name.
use Rattle.std.specs.Prelude.{◌≡◌, ◌≢◌, ℕ, List, [], ◌∷◌, ◌++◌, ◌==◌, if◌then◌else◌, codes, decimal, encode_utf8, chars}
use Rattle.policy_doc.specs.declared.faults.PolicyFault.{PolicyFault}
use Rattle.policy_doc.specs.declared.faults.PolicyFault.TheVariants as fault
use Rattle.policy_doc.specs.declared.faults.Departure.{Departure}
use Rattle.policy_doc.specs.declared.faults.Departure.TheVariants.{BadShape, Unsupported}
use Rattle.policy_doc.specs.declared.paths.Path.{Path, Root, Member', Item'}

-- `~` is written `~0`, and `/` is written `~1` (RFC 6901, section 3)
abbrev pub escaped_char : ℕ → List ℕ
escaped_char c = if c == 126 then codes "~0" else (if c == 47 then codes "~1" else encode_utf8 c)

abbrev pub escaped_chars : List ℕ → List ℕ
escaped_chars [] = []
escaped_chars (c ∷ cs) = escaped_char c ++ escaped_chars cs

abbrev pub escaped : List ℕ → List ℕ
escaped name = escaped_chars (chars name)

-- the pointer of a member of an object, and of an item of a list
abbrev pub member_path : List ℕ → List ℕ → List ℕ
member_path path name = path ++ (codes "/" ++ escaped name)

abbrev pub item_path : List ℕ → ℕ → List ℕ
item_path path index = path ++ (codes "/" ++ decimal index)

-- the pointer of a place
abbrev pub path_text : Path → List ℕ
path_text Root = []
path_text (Member' p parent name) = member_path (path_text parent) name.now
path_text (Item' p parent index) = item_path (path_text parent) index

-- the fault of a departure at a place
abbrev pub fault_at : Departure → List ℕ → PolicyFault
fault_at BadShape path = fault.BadShape path
fault_at Unsupported path = fault.Unsupported path

-- the answer is this fault, but for want of memory
abbrev pub IsFault : PolicyFault → PolicyFault → Type 0
IsFault wanted answer = answer ≢ fault.NoMemory → answer ≡ wanted
