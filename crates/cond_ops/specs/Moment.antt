-- Dates as values of conditions, in whole seconds since 1970-01-01T00:00:00Z.
use Rattle.std.specs.Prelude.{◌≡◌, ◌⊎◌, ℕ, ◌≤◌, ℤ, pos, List, [], ◌∷◌, ◌++◌, length}
use Rattle.std.specs.Char.{is_ascii_digit}
use Rattle.std.specs.List.{AllPass}
use Rattle.std.specs.Str.Parse.{digits_value}
use Rattle.jiff.specs.Words.{IsDate, IsTime, IsYmd, IsHms, civil_seconds}
use Rattle.jiff_core.specs.declared.civil.datetime.DateTime.{DateTime}

-- decimal digits, with the number that they write
abbrev pub IsDigits : List ℕ → ℕ → Type 0
IsDigits text n = AllPass is_ascii_digit text × (n ≡ digits_value 10 text)

-- the same of so many digits
abbrev pub HasDigits : ℕ → List ℕ → ℕ → Type 0
HasDigits width text n = (length text ≡ width) × IsDigits text n

-- three numbers with a mark between them, the first of so many digits and the others of two
abbrev pub AreThree : ℕ → ℕ → List ℕ → ℕ → ℕ → ℕ → Type 0
AreThree mark width text a b c =
    (x : List ℕ) × (y : List ℕ) × (z : List ℕ) × (text ≡ x ++ mark ∷ (y ++ mark ∷ z)) × HasDigits width x a × HasDigits 2 y b × HasDigits 2 z c

-- year, month and day as YYYY-MM-DD (45 is the code of `-`)
abbrev pub IsDayText : List ℕ → ℕ → ℕ → ℕ → Type 0
IsDayText text year month day = AreThree 45 4 text year month day

-- hour, minute and second as HH:MM:SS (58 is `:`)
abbrev pub IsClockText : List ℕ → ℕ → ℕ → ℕ → Type 0
IsClockText text hour minute second = AreThree 58 2 text hour minute second

-- a real day of the Gregorian calendar and a time of day from 00:00:00 to 23:59:59, with its second since 1970,
-- which is negative before it
unfoldable pub IsSecondOf : ℕ → ℕ → ℕ → ℕ → ℕ → ℕ → ℤ → Type 0
IsSecondOf year month day hour minute second z =
    IsDate (pos year) (pos month) (pos day) × IsTime (pos hour) (pos minute) (pos second) (pos 0)
    × ((civil : DateTime) × IsYmd (pos year) (pos month) (pos day) civil.date × IsHms (pos hour) (pos minute) (pos second) (pos 0) civil.time × (z ≡ civil_seconds civil))

-- the day alone, which is its midnight
abbrev pub IsDay : List ℕ → ℤ → Type 0
IsDay text z = (year : ℕ) × (month : ℕ) × (day : ℕ) × IsDayText text year month day × IsSecondOf year month day 0 0 0 z

-- YYYY-MM-DDTHH:MM:SSZ (84 is `T` and 90 is `Z`)
abbrev pub IsDayAndTime : List ℕ → ℤ → Type 0
IsDayAndTime text z =
    (front : List ℕ) × (back : List ℕ) × (year : ℕ) × (month : ℕ) × (day : ℕ) × (hour : ℕ) × (minute : ℕ) × (second : ℕ)
    × (text ≡ front ++ 84 ∷ (back ++ 90 ∷ [])) × IsDayText front year month day × IsClockText back hour minute second
    × IsSecondOf year month day hour minute second z

-- seconds since 1970 in 1 to 12 digits
abbrev pub IsSeconds : List ℕ → ℤ → Type 0
IsSeconds text z = (1 ≤ length text) × (length text ≤ 12) × ((n : ℕ) × IsDigits text n × (z ≡ pos n))

-- a date in one of the three forms, with its second
abbrev pub IsMoment : List ℕ → ℤ → Type 0
IsMoment text z = IsDayAndTime text z ⊎ (IsDay text z ⊎ IsSeconds text z)
