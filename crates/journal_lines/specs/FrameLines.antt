-- The first and the last line of a journal.
use Rattle.std.specs.Prelude.{◌≡◌, ℕ, ◌<◌, ◌^◌, List, [], ◌∷◌, ◌++◌, codes, decimal}
use Rattle.hex.specs.Hex.{encode_lower}
use Rattle.kms_names.specs.Identifier.{IsByteList}

-- the first line up to its boot number
abbrev pub head_front : List ℕ → List ℕ → List ℕ
head_front account region = codes "kms-journal 1 " ++ (account ++ 32 ∷ (region ++ 32 ∷ []))

-- the first line: the account, the region and the boot number in decimal
abbrev pub head_line : List ℕ → List ℕ → ℕ → List ℕ
head_line account region boot = head_front account region ++ (decimal boot ++ 10 ∷ [])

-- the last line: a number of entries in decimal, and a seal in lower-case hex
abbrev pub end_line : ℕ → List ℕ → List ℕ
end_line number seal = codes "end " ++ (decimal number ++ 32 ∷ (encode_lower seal ++ 10 ∷ []))

-- a last line: a number of at most 18 digits, and 32 bytes in hex
pub record IsEnd (line : List ℕ) (number : ℕ) (seal : List ℕ) : Type 0 where
  pub short : number < 10 ^ 18
  pub seals : IsByteList 32 seal
  pub is : line ≡ end_line number seal
