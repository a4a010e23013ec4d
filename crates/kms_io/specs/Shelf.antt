-- What files show of themselves.
use Rattle.std.specs.Prelude.{ℕ, List, Option}

-- how often they failed, the names that they were asked for where that is told, and the content of the file of a name where it is told
pub record Shelf : Type 0 where
  pub faults : ℕ
  pub asked : Option (List (List ℕ))
  pub content : List ℕ → Option (List ℕ)
