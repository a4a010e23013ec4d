-- The answers of clocks in memory.
use Rattle.std.specs.Prelude.{ℕ, ◌+◌, ◌-◌, ◌^◌, suc, zero, List, [], ◌∷◌, ◌++◌, length, slice_index, min, Bool, true, nat_lt, ◌&&◌, if◌then◌else◌, Option, Some, None}
use Rattle.kms_names.specs.Moment.{year_10000}

-- the k-th answer of a list: the last one again and again, and 0 where there is none
abbrev pub listed : List ℕ → ℕ → ℕ
listed answers k = slice_index answers (min k (length answers - 1))

-- the k-th answer of a clock that adds one second a call and stays at the last second of the year 9999
abbrev pub stepped : ℕ → ℕ → ℕ
stepped first k = min (first + k) 253402300799

-- the first n answers
abbrev pub first_of : (ℕ → ℕ) → ℕ → List ℕ
first_of answer zero = []
first_of answer (suc n) = first_of answer n ++ answer n ∷ []

-- a clock with a counter of 64 bits tells its answers until the counter stands still
abbrev pub told_so_far : (ℕ → ℕ) → ℕ → Option (List ℕ)
told_so_far answer calls = if nat_lt (calls + 1) (2 ^ 64) then Some (first_of answer calls) else None

-- each is a time before the year 10000
abbrev pub are_times : List ℕ → Bool
are_times [] = true
are_times (answer ∷ answers) = nat_lt answer year_10000 && are_times answers
