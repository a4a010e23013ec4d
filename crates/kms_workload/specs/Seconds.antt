-- The answers of the clock of a workload.
use Rattle.std.specs.Prelude.{ℕ, List}
use Rattle.kms_io.specs.Clock.{stepped, first_of}

-- the answer to the call of this number, counted from 0: 2023-11-14T22:13:20Z, and one second more a call
abbrev pub second_of : ℕ → ℕ
second_of call = stepped 1700000000 call

-- the answers to so many calls
abbrev pub seconds_of : ℕ → List ℕ
seconds_of calls = first_of second_of calls
