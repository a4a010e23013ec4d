-- What a reader answers of a part of a document.
use Rattle.std.specs.Prelude.{◌≡◌, ◌≢◌, List, ◌++◌, Option, Some, None, Result, Ok, Err}
use Rattle.policy_doc.specs.declared.faults.PolicyFault.{PolicyFault}
use Rattle.policy_doc.specs.declared.faults.PolicyFault.TheVariants as fault

-- the value where the part has no fault, and else its first fault, but for want of memory
abbrev pub Answers : {A : Type 0} → Option PolicyFault → A → Result A PolicyFault → Type 0
Answers first value (Ok answer) = (first ≡ None) × (answer ≡ value)
Answers first value (Err answer) = answer ≢ fault.NoMemory → first ≡ Some answer

-- the same where the values are added to those that stand
abbrev pub Adds : {A : Type 0} → Option PolicyFault → List A → List A → List A → Result (Unit {0}) PolicyFault → Type 0
Adds first values old new (Ok _) = (first ≡ None) × (new ≡ old ++ values)
Adds first values old new (Err answer) = answer ≢ fault.NoMemory → first ≡ Some answer
