-- Days of the calendar from 1970 on.
use Rattle.std.proofs.Common.{◌≡◌, ℕ, ◌-◌, ◌<◌, ◌≤◌, ◌^◌, nat_le, Bool, true, false, ◌&&◌, Some, None, refl, sym, ap, ◌∙◌, subst, arith, inl, inr, ℤ, pos, ◌-ℤ◌, w8, w16, to_z}
use Rattle.std.proofs.lemmas.Bool.{cases_lt}
use Rattle.std.proofs.lemmas.Bool.Decides.{nat_tests}
use Rattle.std.proofs.lemmas.Int.{to_z_pos, ints}
use Rattle.jiff_core.specs.Calendar.{IsDate, IsEpochDay, days_in_month, day_count, days_from_civil}
use Rattle.jiff_core.specs.Date.{IsYmd, epoch_day}
use Rattle.jiff_core.specs.declared.civil.date.Date.{Date}
use Rattle.jiff_core.proofs.CalendarLemmas.{days_in_month_bounds, day_count-later_year, day_count-day_of_year, day_count-epoch}
use Rattle.sigv4_check.specs.Dates.{is_day, days_to, could_be_day}

and_left : (a b : Bool) → (a && b) ≡ true → a ≡ true
and_left true b h = refl
and_left false b h = h

and_right : (a b : Bool) → (a && b) ≡ true → b ≡ true
and_right true b h = h
and_right false b h = cc

-- the numbers of a day, with the length of its month
abbrev day_test : ℕ → ℕ → ℕ → ℕ → Bool
day_test year month day most = (nat_le 1970 year && nat_le year 9999) && ((nat_le 1 month && nat_le month 12) && (nat_le 1 day && nat_le day most))

record Day (year month day most : ℕ) : Type 0 where
  from : 1970 ≤ year
  to : year ≤ 9999
  first_month : 1 ≤ month
  last_month : month ≤ 12
  first_day : 1 ≤ day
  last_day : day ≤ most

le_of : (m n : ℕ) → nat_le m n ≡ true → m ≤ n
le_of m n e = grind (arith, nat_tests)

test_of : (m n : ℕ) → m ≤ n → nat_le m n ≡ true
test_of m n e = grind (arith, nat_tests)

and_true : (a b : Bool) → a ≡ true → b ≡ true → (a && b) ≡ true
and_true a b p q = rw p q

day_of_test : (year month day most : ℕ) → day_test year month day most ≡ true → Day year month day most
day_of_test year month day most h =
    let years = and_left _ _ h in
    let rest = and_right _ _ h in
    let months = and_left _ _ rest in
    let days = and_right _ _ rest in
    record {
      from = le_of 1970 year (and_left _ _ years);
      to = le_of year 9999 (and_right _ _ years);
      first_month = le_of 1 month (and_left _ _ months);
      last_month = le_of month 12 (and_right _ _ months);
      first_day = le_of 1 day (and_left _ _ days);
      last_day = le_of day most (and_right _ _ days);
    }

test_of_day : (year month day most : ℕ) → Day year month day most → day_test year month day most ≡ true
test_of_day year month day most d =
    and_true _ _ (and_true _ _ (test_of 1970 year d.from) (test_of year 9999 d.to))
    (and_true _ _ (and_true _ _ (test_of 1 month d.first_month) (test_of month 12 d.last_month)) (and_true _ _ (test_of 1 day d.first_day) (test_of day most d.last_day)))

-- ---- what could be a day

pub record Could (year month day : ℕ) : Type 0 where
  pub from : 1970 ≤ year
  pub to : year ≤ 9999
  pub month_fits : month ≤ 12
  pub day_fits : day ≤ 31

pub could : (year month day : ℕ) → true ≡ could_be_day year month day → Could year month day
could year month day e =
    let h : could_be_day year month day ≡ true = sym e in
    let a = and_right _ _ h in
    let b = and_right _ _ a in
    record { from = le_of 1970 year (and_left _ _ h); to = le_of year 9999 (and_left _ _ a); month_fits = le_of month 12 (and_left _ _ b); day_fits = le_of day 31 (and_right _ _ b) }

-- no day, where the test of a day fails
none_by : (year month day : ℕ) (b : Bool) → is_day year month day ≡ b → ¬ (is_day year month day ≡ true) → None ≡ days_to year month day
unfolding days_to
none_by year month day true is never = absurd (never is)
none_by year month day false is never = rw is refl

pub no_day : (year month day : ℕ) → false ≡ could_be_day year month day → None ≡ days_to year month day
no_day year month day e = none_by year month day (is_day year month day) refl (λ h.
    let d = day_of_test year month day (days_in_month (pos year) month) h in
    let small : day ≤ 31 = omega (arith, d.last_day, days_in_month_bounds (pos year) month) in
    let is : could_be_day year month day ≡ true =
    and_true _ _ (test_of 1970 year d.from) (and_true _ _ (test_of year 9999 d.to) (and_true _ _ (test_of month 12 d.last_month) (test_of day 31 small))) in
    let both : false ≡ true = e ∙ is in cc)

-- ---- a date

module _ (year month day : ℕ) (can : Could year month day) where
  abbrev y : ℤ
  y = to_z w16 year

  abbrev m : ℤ
  m = to_z w8 month

  abbrev d : ℤ
  d = to_z w8 day

  y_is : y ≡ pos year
  y_is = let small : year < 2 ^ 15 = omega (arith, can.to) in to_z_pos w16 year small

  m_is : m ≡ pos month
  m_is = let small : month < 2 ^ 7 = omega (arith, can.month_fits) in to_z_pos w8 month small

  d_is : d ≡ pos day
  d_is = let small : day < 2 ^ 7 = omega (arith, can.day_fits) in to_z_pos w8 day small

  date_is : IsDate y m d → IsDate (pos year) (pos month) (pos day)
  date_is is = subst (λ v. IsDate v (pos month) (pos day)) y_is (subst (λ v. IsDate y v (pos day)) m_is (subst (λ v. IsDate y m v) d_is is))

  is_date : IsDate (pos year) (pos month) (pos day) → IsDate y m d
  is_date is = subst (λ v. IsDate v m d) (sym y_is) (subst (λ v. IsDate (pos year) v d) (sym m_is) (subst (λ v. IsDate (pos year) (pos month) v) (sym d_is) is))

  pub no_date : ¬ (IsDate y m d) → None ≡ days_to year month day
  no_date never = none_by year month day (is_day year month day) refl (λ h.
      let t = day_of_test year month day (days_in_month (pos year) month) h in
      let f = t.from in
      let to = t.to in
      let fm = t.first_month in
      let lm = t.last_month in
      let fd = t.first_day in
      let ld = t.last_day in
      never (is_date ((omega (arith, ints), omega (arith, ints)), (omega (arith, ints), omega (arith, ints)), (omega (arith, ints), omega (arith, ints)))))

-- ---- the count of days

-- no day from 1970 on stands before its first
from_first : (year month day : ℕ) → 1970 ≤ year → 1 ≤ day → 4371953 ≤ day_count (pos year) month day
from_first year month day from one =
    let in_year = day_count-day_of_year (pos year) month day one in
    elim (cases_lt 1970 year) [
      | inl past ↦ omega (arith, in_year, day_count-epoch, day_count-later_year (pos 1970) (pos year) (search arith) (search arith))
      | inr same ↦
          let is : year ≡ 1970 = omega arith in
          omega (arith, in_year, day_count-epoch, ap (λ (n : ℕ). day_count (pos n) 1 1) is)
    ]

-- the day number of a date, and the count that it is
pub record IsCount (z : ℤ) (year month day : ℕ) : Type 0 where
  pub count : ℕ
  pub count_is : z ≡ pos count
  pub count_fits : count ≤ 2932896
  pub days : Some count ≡ days_to year month day

count_of : (z : ℤ) (n : ℕ) → z ≡ pos n -ℤ pos 4371953 → 4371953 ≤ n → z ≡ pos (n - 4371953)
count_of z n e h = omega (arith, ints, e)

difference : (year month day : ℕ) → days_from_civil (pos year) month day ≡ pos (day_count (pos year) month day) -ℤ pos 4371953
unfolding days_from_civil
difference year month day = ap (λ (n : ℕ). pos (day_count (pos year) month day) -ℤ pos n) day_count-epoch

some_by : (year month day : ℕ) → is_day year month day ≡ true → Some (day_count (pos year) month day - 4371953) ≡ days_to year month day
unfolding days_to
some_by year month day is = rw (is, day_count-epoch) refl

same_pos : (a b : ℕ) → pos a ≡ pos b → a ≡ b
same_pos a b e = cc

module _ (year month day : ℕ) (can : Could year month day) where
  pub counted : (date : Date) (z : ℤ) → IsDate (to_z w16 year) (to_z w8 month) (to_z w8 day) → IsYmd (to_z w16 year) (to_z w8 month) (to_z w8 day) date → z ≡ epoch_day date → IsEpochDay z
      → IsCount z year month day
  counted date z is ymd at bound =
      let real = date_is year month day can is in
      let first_month : 1 ≤ month = omega (arith, ints, real.1.0) in
      let last_month : month ≤ 12 = omega (arith, ints, real.1.1) in
      let first_day : 1 ≤ day = omega (arith, ints, real.2.0) in
      let last_day : day ≤ days_in_month (pos year) month = omega (arith, ints, real.2.1) in
      let tested = test_of_day year month day (days_in_month (pos year) month) (record { from = can.from; to = can.to; first_month = first_month; last_month = last_month; first_day = first_day; last_day = last_day }) in
      let years : date.year ≡ pos year = ymd.0 ∙ y_is year month day can in
      let months : date.month ≡ month = same_pos date.month month (ymd.1 ∙ m_is year month day can) in
      let days : date.day ≡ day = same_pos date.day day (ymd.2 ∙ d_is year month day can) in
      let same : epoch_day date ≡ days_from_civil (pos year) month day =
      ap (λ v. days_from_civil v date.month date.day) years ∙ ap (λ (n : ℕ). days_from_civil (pos year) n date.day) months ∙ ap (λ (n : ℕ). days_from_civil (pos year) month n) days in
      let past = from_first year month day can.from first_day in
      let count = count_of z (day_count (pos year) month day) (at ∙ same ∙ difference year month day) past in
      record {
        count = day_count (pos year) month day - 4371953;
        count_is = count;
        count_fits = omega (arith, ints, count, bound.1);
        days = some_by year month day tested;
      }
