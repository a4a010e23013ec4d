-- The date of a request in the basic form of ISO 8601, YYYYMMDDTHHMMSSZ (IAM User Guide, "Elements of an AWS API request signature").
use Rattle.std.specs.Prelude.{ℕ, Bool, ◌==◌, ◌&&◌, ◌+◌, ◌-◌, ◌*◌, if◌then◌else◌, List, Option, Some, None, option_and_then, option_map, length, slice_range, slice_index, nat_le, pos}
use Rattle.jiff_core.specs.Calendar.{days_in_month, day_count}
use Rattle.kms_names.specs.Digits.{number_in}
use Rattle.kms_names.specs.Reading.{some_if}
use Rattle.sigv4_check.specs.declared.dates.Written.{Written}

abbrev pub digits_from : List ℕ → ℕ → ℕ → Option ℕ
digits_from text from to = number_in (to - from) (slice_range text from to)

infixl 10 ◌>>=◌
abbrev pub ◌>>=◌ : {A B : Type 0} → Option A → (A → Option B) → Option B
o >>= f = option_and_then f o

-- 84 is `T` and 90 is `Z`
abbrev pub has_marks : List ℕ → Bool
has_marks text = (length text == 16) && ((slice_index text 8 == 84) && (slice_index text 15 == 90))

unfoldable pub written_in : List ℕ → Option Written
written_in text = do
  year ← digits_from text 0 4
  month ← digits_from text 4 6
  day ← digits_from text 6 8
  hour ← digits_from text 9 11
  minute ← digits_from text 11 13
  second ← digits_from text 13 15
  Some (record { year = year; month = month; day = day; hour = hour; minute = minute; second = second })

-- the clock has this time of day
abbrev pub is_time : Written → Bool
is_time w = nat_le w.hour 23 && (nat_le w.minute 59 && nat_le w.second 59)

-- the Gregorian calendar has this day, and it isn't before 1970
abbrev pub is_day : ℕ → ℕ → ℕ → Bool
is_day year month day =
    (nat_le 1970 year && nat_le year 9999) && ((nat_le 1 month && nat_le month 12) && (nat_le 1 day && nat_le day (days_in_month (pos year) month)))

-- a day of that month and number may be there in some year
abbrev pub could_be_day : ℕ → ℕ → ℕ → Bool
could_be_day year month day = nat_le 1970 year && (nat_le year 9999 && (nat_le month 12 && nat_le day 31))

-- how many days lie between the beginning of 1970 and this day
unfoldable pub days_to : ℕ → ℕ → ℕ → Option ℕ
days_to year month day = some_if (is_day year month day) (day_count (pos year) month day - day_count (pos 1970) 1 1)

abbrev pub with_time : Written → ℕ → ℕ
with_time w days = days * 86400 + (w.hour * 3600 + w.minute * 60 + w.second)

abbrev pub second_at : Written → Option ℕ
second_at w = if is_time w then option_map (with_time w) (days_to w.year w.month w.day) else None

-- the second of a date in this form, counted from the beginning of 1970
abbrev pub second_of : List ℕ → Option ℕ
second_of text = if has_marks text then option_and_then second_at (written_in text) else None
