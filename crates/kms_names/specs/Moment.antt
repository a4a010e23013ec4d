-- Moments, in seconds since 1970.
use Rattle.std.specs.Prelude.{ℕ}

-- the first second of the year 10000: each moment of an account, of a clock and of a reply is before it
abbrev pub year_10000 : ℕ
year_10000 = 253402300800
