-- Numbers as values of conditions.
use Rattle.std.specs.Prelude.{◌≡◌, ℕ, ℤ, List, FitsSigned}
use Rattle.std.specs.Int.{w64}
use Rattle.std.specs.Fmt.{signed_decimal}

-- the text that an integer of 64 bits is printed as: no plus, no leading zero, and no minus before 0
abbrev pub IsNumber : List ℕ → ℤ → Type 0
IsNumber text z = FitsSigned w64 z × (text ≡ signed_decimal z)
