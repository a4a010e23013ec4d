-- The year, the month and the day of a count of days.
use Rattle.std.proofs.Common.{◌≡◌, ℕ, zero, suc, ◌+◌, ◌-◌, ◌<◌, ◌≤◌, nat_le, Bool, true, false, if◌then◌else◌, refl, sym, ap, ◌∙◌, subst, arith, inl, inr, leb-true, le-leb, ℤ, pos, negsuc}
use Rattle.std.proofs.lemmas.Bool.{cases_lt}
use Rattle.jiff_core.specs.Calendar.{IsCivilDate, days_in_year, day_count, days_of_months, days_from_civil}
use Rattle.jiff_core.proofs.CalendarLemmas.{days_from_civil-day_count, day_count-later_year, day_count-lt_year, day_count-day_of_year, day_count-epoch, days_of_months_more, days_of_months_mono, day_of_year_bound}
use Rattle.jiff_core.proofs.SignedLemmas.{signed_arith}
use Rattle.authority.specs.Times.{first_day, year_by, months_by}

if_true : (b : Bool) (x y : ℕ) → b ≡ true → (if b then x else y) ≡ x
if_true true x y e = refl
if_true false x y e = cc

if_false : (b : Bool) (x y : ℕ) → b ≡ false → (if b then x else y) ≡ y
if_false true x y e = cc
if_false false x y e = refl

above : (b : Bool) (m n : ℕ) → nat_le m n ≡ b → n < m → b ≡ false
above true m n e below = absurd (omega (arith, leb-true m n e))
above false m n e below = refl

-- ---- the year

-- how many days lie before a year from 0 on
abbrev begins : ℕ → ℕ
begins year = day_count (pos year) 1 1

later : (m n : ℕ) → m < n → begins m + days_in_year (pos m) ≤ begins n
later m n below = day_count-later_year (pos m) (pos n) (search arith) (search arith)

-- the year that has begun, and is not over
year_found : (most year day : ℕ) → year ≤ most → begins year ≤ day → day < begins year + days_in_year (pos year) → year_by most day ≡ year
unfolding year_by
year_found zero year day within from to = omega arith
year_found (suc most) year day within from to = elim (cases_lt year (suc most)) [
  | inl below ↦ if_false (nat_le (begins (suc most)) day) (suc most) (year_by most day)
      (above (nat_le (begins (suc most)) day) (begins (suc most)) day refl (omega (arith, later year (suc most) below)))
      ∙ year_found most year day (omega arith) from to
  | inr past ↦
      let same : suc most ≡ year = omega arith in
      if_true (nat_le (begins (suc most)) day) (suc most) (year_by most day) (le-leb (begins (suc most)) day (subst (λ (n : ℕ). begins n ≤ day) (sym same) from)) ∙ same
]

-- ---- the month

months_found : (year most months day : ℕ) → months ≤ most → days_of_months (pos year) months ≤ day → day < days_of_months (pos year) (suc months) → months_by year most day ≡ months
unfolding months_by
months_found year zero months day within from to = omega arith
months_found year (suc most) months day within from to = elim (cases_lt months (suc most)) [
  | inl below ↦ if_false (nat_le (days_of_months (pos year) (suc most)) day) (suc most) (months_by year most day)
      (above (nat_le (days_of_months (pos year) (suc most)) day) (days_of_months (pos year) (suc most)) day refl (omega (arith, days_of_months_mono (pos year) (suc months) (suc most) (omega arith))))
      ∙ months_found year most months day (omega arith) from to
  | inr past ↦
      let same : suc most ≡ months = omega arith in
      if_true (nat_le (days_of_months (pos year) (suc most)) day) (suc most) (months_by year most day)
      (le-leb (days_of_months (pos year) (suc most)) day (subst (λ (n : ℕ). days_of_months (pos year) n ≤ day) (sym same) from)) ∙ same
]

-- ---- a date

-- the year, the month and the day of a date are those of its count of days since 1970
pub record IsCivil (y : ℤ) (m d day : ℕ) : Type 0 where
  pub year : ℕ
  pub year_is : y ≡ pos year
  pub year_fits : year ≤ 9999
  pub year_by : year_by 9999 (day + first_day) ≡ year
  pub months_by : months_by year 11 (day + first_day - day_count (pos year) 1 1) + 1 ≡ m
  pub day_by : day + first_day - day_count (pos year) 1 1 - days_of_months (pos year) (m - 1) + 1 ≡ d

pub civil_found : (y : ℤ) (m d day : ℕ) → IsCivilDate y m d → days_from_civil y m d ≡ pos day → IsCivil y m d day
civil_found (pos n) m d day civil is =
    let count : day + first_day ≡ day_count (pos n) m d = omega (arith, signed_arith, days_from_civil-day_count (pos n) m d, is) in
    let within : n ≤ 9999 = omega (arith, signed_arith, civil.0) in
    let one : 1 ≤ d = civil.2.0 in
    let month : 1 ≤ m = civil.1.0 in
    let in_year = day_count-day_of_year (pos n) m d one in
    let bound = day_of_year_bound (pos n) m d civil in
    let more = days_of_months_more (pos n) m month in
    let same : suc (m - 1) ≡ m = omega arith in
    let next : days_of_months (pos n) (suc (m - 1)) ≡ days_of_months (pos n) m = ap (days_of_months (pos n)) same in
    let rest : day + first_day - begins n + 1 ≡ days_of_months (pos n) (m - 1) + d = omega (arith, in_year, count) in
    record {
      year = n;
      year_is = refl;
      year_fits = within;
      year_by = year_found 9999 n (day + first_day) within (omega (arith, in_year, count)) (omega (arith, in_year, count, bound));
      months_by = ap (λ (k : ℕ). k + 1) (months_found n 11 (m - 1) (day + first_day - begins n) (omega (arith, civil.1.1)) (omega (arith, rest)) (omega (arith, rest, next, more, civil.2.1))) ∙ omega arith;
      day_by = omega (arith, rest);
    }
civil_found (negsuc n) m d day civil is =
    let count : day + first_day ≡ day_count (negsuc n) m d = omega (arith, signed_arith, days_from_civil-day_count (negsuc n) m d, is) in
    absurd (omega (arith, count, day_count-epoch, day_count-lt_year (negsuc n) m d (pos 1970) 1 1 civil (omega arith) (search arith)))
