-- What a door shows of itself.
use Rattle.std.specs.Prelude.{ℕ, List, Option, Bool}
use Rattle.kms_io.specs.Listening.{Listening}

-- how often it failed, and where these are told: the addresses with the numbers of ears that it was asked for, whether ears were opened
-- since its last close, and what the ears show that its last close gave back
pub record Doorway : Type 0 where
  pub faults : ℕ
  pub asked : Option (List (List ℕ × ℕ))
  pub is_open : Option Bool
  pub given_back : Option (List Listening)
