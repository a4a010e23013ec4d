-- A sealed text with its key.
use Rattle.std.specs.Prelude.{ℕ, List, Option}
use Rattle.key_states.specs.declared.rows.KeyRow.{KeyRow}

-- the key of a sealed text, the alias that the request names it by, if any, the version that it was sealed under, and its bytes
pub record Source : Type 0 where
  pub row : KeyRow
  pub alias : Option (List ℕ)
  pub version : ℕ
  pub bytes : List ℕ
