-- Places of entries, counted from 0. A row has the place of the entry that made it, and rows are listed from behind a
-- place on.
use Rattle.std.specs.Prelude.{ℕ, Bool, true, nat_lt, Option, None, Some}

-- what was made at the second place is behind the first, where one is given
abbrev pub is_behind : Option ℕ → ℕ → Bool
is_behind None born = true
is_behind (Some place) born = nat_lt place born
