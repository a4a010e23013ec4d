-- What a contract sees of a line of draws.
use Rattle.std.specs.Prelude.{ℕ, List}

-- the seed, the boot and the pass number, and how many words and vectors were given
pub record Line : Type 0 where
  pub seed : List ℕ
  pub boot : ℕ
  pub pass_number : ℕ
  pub words : ℕ
  pub ivs : ℕ
