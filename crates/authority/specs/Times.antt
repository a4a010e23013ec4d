-- A moment as a text (IAM User Guide, "AWS global condition context keys", aws:CurrentTime).
use Rattle.std.specs.Prelude.{ℕ, zero, suc, min, ◌+◌, ◌-◌, ◌/◌, ◌%◌, nat_le, if◌then◌else◌, List, [], ◌∷◌, ◌++◌, pos}
use Rattle.jiff_core.specs.Calendar.{day_count, days_of_months}
use Rattle.authority.specs.declared.times.Civil.{Civil}

-- the last year, up to this one, that begins by this day; days are counted from 1 January of the year -10000
unfoldable pub year_by : ℕ → ℕ → ℕ
year_by zero day = zero
year_by (suc year) day = if nat_le (day_count (pos (suc year)) 1 1) day then suc year else year_by year day

-- how many months of the year, up to this many, are over by this day of it, counted from 0
unfoldable pub months_by : ℕ → ℕ → ℕ → ℕ
months_by year zero day = zero
months_by year (suc months) day = if nat_le (days_of_months (pos year) (suc months)) day then suc months else months_by year months day

-- 1 January 1970 is the day of this count
abbrev pub first_day : ℕ
first_day = 4_371_953

abbrev pub year_at : ℕ → ℕ
year_at moment = year_by 9999 (moment / 86400 + first_day)

abbrev pub day_of_year_at : ℕ → ℕ
day_of_year_at moment = moment / 86400 + first_day - day_count (pos (year_at moment)) 1 1

abbrev pub months_at : ℕ → ℕ
months_at moment = months_by (year_at moment) 11 (day_of_year_at moment)

-- the day and the time of a moment, in seconds since 1970
abbrev pub civil_by : ℕ → Civil
civil_by moment = record {
  year = year_at moment;
  month = months_at moment + 1;
  day = day_of_year_at moment - days_of_months (pos (year_at moment)) (months_at moment) + 1;
  hour = moment % 86400 / 3600;
  minute = moment % 3600 / 60;
  second = moment % 60;
}

-- a moment past the year 9999 is the last second of that year
unfoldable pub civil_at : ℕ → Civil
civil_at moment = civil_by (min moment 253402300799)

-- two digits
abbrev pub two : ℕ → List ℕ
two n = (48 + n / 10) ∷ (48 + n % 10) ∷ []

-- YYYY-MM-DDTHH:MM:SSZ (45 is `-`, 58 is `:`, 84 is `T` and 90 is `Z`)
abbrev pub civil_text : Civil → List ℕ
civil_text c =
    two (c.year / 100) ++ two (c.year % 100) ++ 45 ∷ two c.month ++ 45 ∷ two c.day ++ 84 ∷ two c.hour ++ 58 ∷ two c.minute ++ 58 ∷ two c.second ++ 90 ∷ []

abbrev pub moment_text : ℕ → List ℕ
moment_text moment = civil_text (civil_at moment)
