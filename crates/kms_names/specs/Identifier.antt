-- Ids of keys and grants.
use Rattle.std.specs.Prelude.{◌≡◌, ℕ, ◌<◌, List, length}
use Rattle.std.specs.List.{All}

-- so many bytes
abbrev pub IsByteList : ℕ → List ℕ → Type 0
IsByteList n bytes = (length bytes ≡ n) × All (λ b. b < 256) bytes

abbrev pub IsKeyId : List ℕ → Type 0
IsKeyId = IsByteList 16

abbrev pub IsGrantId : List ℕ → Type 0
IsGrantId = IsByteList 32
