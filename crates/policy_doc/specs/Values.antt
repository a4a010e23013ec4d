-- The forms of numbers and dates among the values of conditions, as functions of texts.
use Rattle.std.specs.Prelude.{ℕ, ◌^◌, zero, suc, ℤ, pos, negsuc, Bool, false, ◌&&◌, ◌||◌, ◌==◌, nat_le, nat_lt, List, [], ◌∷◌, length, if◌then◌else◌}
use Rattle.std.specs.Fmt.{signed_decimal}
use Rattle.std.specs.Char.{is_ascii_digit}
use Rattle.std.specs.List.{list_all}
use Rattle.std.specs.Str.{bytes_eq}
use Rattle.std.specs.Str.Parse.{digits_value}
use Rattle.jiff_core.specs.Calendar.{days_in_month}

-- the number that digits, or digits behind `-`, write
abbrev pub minus_of : ℕ → ℤ
minus_of zero = pos 0
minus_of (suc n) = negsuc n

abbrev pub integer_of : List ℕ → ℤ
integer_of [] = pos 0
integer_of (c ∷ text) = if c == 45 then minus_of (digits_value 10 text) else pos (digits_value 10 (c ∷ text))

abbrev pub is_signed_64 : ℤ → Bool
is_signed_64 (pos n) = nat_lt n (2 ^ 63)
is_signed_64 (negsuc n) = nat_lt n (2 ^ 63)

-- an integer of 64 bits as it is printed
unfoldable pub is_number_text : List ℕ → Bool
is_number_text text = is_signed_64 (integer_of text) && bytes_eq text (signed_decimal (integer_of text))

abbrev pub is_digits : List ℕ → Bool
is_digits text = list_all is_ascii_digit text

-- a day of the Gregorian calendar, to the year 9999
abbrev pub is_day : ℕ → ℕ → ℕ → Bool
is_day year month day = nat_le year 9999 && ((nat_le 1 month && nat_le month 12) && (nat_le 1 day && nat_le day (days_in_month (pos year) month)))

-- YYYY-MM-DD
unfoldable pub is_day_text : List ℕ → Bool
is_day_text (a ∷ b ∷ c ∷ d ∷ e ∷ f ∷ g ∷ h ∷ i ∷ j ∷ []) =
    ((e == 45) && (h == 45))
    && ((is_digits (a ∷ b ∷ c ∷ d ∷ []) && (is_digits (f ∷ g ∷ []) && is_digits (i ∷ j ∷ [])))
    && is_day (digits_value 10 (a ∷ b ∷ c ∷ d ∷ [])) (digits_value 10 (f ∷ g ∷ [])) (digits_value 10 (i ∷ j ∷ [])))
is_day_text _ = false

-- a time of day from 00:00:00 to 23:59:59
abbrev pub is_clock : ℕ → ℕ → ℕ → Bool
is_clock hour minute second = nat_lt hour 24 && (nat_lt minute 60 && nat_lt second 60)

-- HH:MM:SS
unfoldable pub is_clock_text : List ℕ → Bool
is_clock_text (a ∷ b ∷ c ∷ d ∷ e ∷ f ∷ g ∷ h ∷ []) =
    ((c == 58) && (f == 58))
    && ((is_digits (a ∷ b ∷ []) && (is_digits (d ∷ e ∷ []) && is_digits (g ∷ h ∷ [])))
    && is_clock (digits_value 10 (a ∷ b ∷ [])) (digits_value 10 (d ∷ e ∷ [])) (digits_value 10 (g ∷ h ∷ [])))
is_clock_text _ = false

-- YYYY-MM-DDTHH:MM:SSZ
unfoldable pub is_day_and_time_text : List ℕ → Bool
is_day_and_time_text (a ∷ b ∷ c ∷ d ∷ e ∷ f ∷ g ∷ h ∷ i ∷ j ∷ t ∷ k ∷ l ∷ m ∷ n ∷ o ∷ p ∷ q ∷ r ∷ z ∷ []) =
    ((t == 84) && (z == 90)) && (is_day_text (a ∷ b ∷ c ∷ d ∷ e ∷ f ∷ g ∷ h ∷ i ∷ j ∷ []) && is_clock_text (k ∷ l ∷ m ∷ n ∷ o ∷ p ∷ q ∷ r ∷ []))
is_day_and_time_text _ = false

-- seconds since 1970 in 1 to 12 digits
abbrev pub is_seconds_text : List ℕ → Bool
is_seconds_text text = (nat_le 1 (length text) && nat_le (length text) 12) && is_digits text

-- a date in one of the three forms
unfoldable pub is_moment_text : List ℕ → Bool
is_moment_text text = is_day_and_time_text text || (is_day_text text || is_seconds_text text)
