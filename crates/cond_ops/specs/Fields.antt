-- What the parts of a date are read as.
use Rattle.std.specs.Prelude.{◌≡◌, ℕ, ℤ, pos, List, Option, MatchOption}
use Rattle.cond_ops.specs.Moment.{HasDigits, IsDayText, IsClockText, IsSecondOf}
use Rattle.cond_ops.specs.declared.moments.Day.{Day}
use Rattle.cond_ops.specs.declared.moments.Clock.{Clock}

-- the number of so many digits
abbrev pub IsReadDigits : ℕ → List ℕ → Option ℤ → Type 0
IsReadDigits width text result =
    MatchOption result ((n : ℕ) → ¬ (HasDigits width text n)) (λ z. (n : ℕ) × (z ≡ pos n) × HasDigits width text n)

-- the day has these numbers
abbrev pub HasDay : Day → ℕ → ℕ → ℕ → Type 0
HasDay d year month day = (d.year ≡ pos year) × (d.month ≡ pos month) × (d.day ≡ pos day)

abbrev pub HasClock : Clock → ℕ → ℕ → ℕ → Type 0
HasClock t hour minute second = (t.hour ≡ pos hour) × (t.minute ≡ pos minute) × (t.second ≡ pos second)

-- the day of a text
abbrev pub IsReadDay : List ℕ → Option Day → Type 0
IsReadDay text result =
    MatchOption result ((year month day : ℕ) → ¬ (IsDayText text year month day))
    (λ d. (year : ℕ) × (month : ℕ) × (day : ℕ) × HasDay d year month day × IsDayText text year month day)

abbrev pub IsReadClock : List ℕ → Option Clock → Type 0
IsReadClock text result =
    MatchOption result ((hour minute second : ℕ) → ¬ (IsClockText text hour minute second))
    (λ t. (hour : ℕ) × (minute : ℕ) × (second : ℕ) × HasClock t hour minute second × IsClockText text hour minute second)

-- the second of a day and a time
abbrev pub IsReadSecond : Day → Clock → Option ℤ → Type 0
IsReadSecond d t result =
    (year month day hour minute second : ℕ) → HasDay d year month day → HasClock t hour minute second
    → MatchOption result ((z : ℤ) → ¬ (IsSecondOf year month day hour minute second z)) (IsSecondOf year month day hour minute second)
