-- What a door in memory keeps of a call of `open`.
use Rattle.std.specs.Prelude.{ℕ, List, String, string_bytes}
use Rattle.std.specs.Global.{Global}

-- the address and the number of ears
abbrev pub asked_for : String Global × ℕ → List ℕ × ℕ
asked_for request = (string_bytes request.0, request.1)
