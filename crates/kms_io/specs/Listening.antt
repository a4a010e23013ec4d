-- What an ear shows of itself.
use Rattle.std.specs.Prelude.{ℕ, List, Option, Bool}
use Rattle.kms_io.specs.Wire.{Wire}

-- how often it failed, whether a connection of it is out, and what the connections given back show, in order, where that is told
pub record Listening : Type 0 where
  pub faults : ℕ
  pub is_out : Bool
  pub given_back : Option (List Wire)
