-- Calls that are counted, of which some fail by their number.
use Rattle.std.specs.Prelude.{ℕ, ◌+◌, ◌-◌, ◌^◌, min, List, Bool, nat_eq}
use Rattle.std.specs.List.{list_any}

-- how many calls were made, and the numbers of those that fail, counted from 0
pub record Calls : Type 0 where
  pub made : ℕ
  pub failing : List ℕ

-- the next call is to fail
abbrev pub is_failing : Calls → Bool
is_failing calls = list_any (λ number. nat_eq number calls.made) calls.failing

-- one more call was made, or the count stands at the last value of a u64
abbrev pub one_more : Calls → Calls
one_more calls = record calls { made = min (calls.made + 1) (2 ^ 64 - 1) }
