-- What is read of a part of a configuration: its value, or the JSON pointer of its first fault.
use Rattle.std.specs.Prelude.{◌≡◌, ⊤, ℕ, List, Option, Some, None, Result, Ok, Err}
use Rattle.kms_config.specs.declared.faults.ConfigFault.{ConfigFault}
use Rattle.kms_config.specs.declared.faults.ConfigFault.TheVariants.{At, NoMemory}

-- what comes next is asked where there is no fault yet
infixl 10 ◌>>=◌
abbrev pub ◌>>=◌ : {A B : Type 0} → Result A (List ℕ) → (A → Result B (List ℕ)) → Result B (List ℕ)
Ok x >>= f = f x
Err path >>= f = Err path

-- the value, or a fault at this place
abbrev pub at : {A : Type 0} → List ℕ → Option A → Result A (List ℕ)
at path None = Err path
at path (Some x) = Ok x

-- the answer is that, or that memory was wanting
abbrev pub Answers : {A : Type 0} → Result A (List ℕ) → Result A ConfigFault → Type 0
Answers wanted (Ok x) = wanted ≡ Ok x
Answers wanted (Err (At path)) = wanted ≡ Err path
Answers wanted (Err NoMemory) = ⊤

-- a fault of this place, or that memory was wanting
abbrev pub IsFaultAt : List ℕ → ConfigFault → Type 0
IsFaultAt path (At text) = text ≡ path
IsFaultAt path NoMemory = ⊤
