use Rattle.std.proofs.Common.{◌≡◌, ℕ, ◌+◌, ◌-◌, ◌/◌, ◌%◌, ◌^◌, ◌<◌, ◌≤◌, IfOk, ap, ◌∙◌, sym, subst, FitsSigned, to_z, of_z, w16, w64, ℤ, pos, arith, rules}
use Rattle.std.specs.Prelude.{unsigned_abs}
use Rattle.std.proofs.lemmas.Int.{to_z-of_z}
use Rattle.jiff_core.specs.Calendar.{day_count, days_of_months}
use Rattle.jiff_core.specs.Date.{epoch_day}
use Rattle.jiff_core.specs.declared.civil.date.Date.{Date}
use Rattle.authority.specs.declared.times.Civil.{Civil}
use Rattle.authority.specs.Times.{first_day, year_at, months_at, months_by, civil_by, civil_at}
use Rattle.authority.proofs.TimesFacts.{IsCivil, civil_found}
use Rattle.authority.proofs.times.civil_at.Goals as goal

-- the day that was asked for is the date's
days_of : (moment : ℕ) (day : ℤ) (date : Date) → day ≡ pos (moment / 86400) → epoch_day date ≡ day → IsCivil date.year date.month date.day (moment / 86400)
days_of moment day date is e = civil_found date.year date.month date.day (moment / 86400) (date.year_in, date.month_in, date.day_in) (e ∙ is)

year_cast : (y : ℤ) (n : ℕ) → y ≡ pos n → n ≤ 9999 → to_z w16 (of_z w16 y) ≡ pos n
year_cast y n is within = let fits : FitsSigned w16 (pos n) = search rules in ap (λ z. to_z w16 (of_z w16 z)) is ∙ to_z-of_z w16 (pos n) fits

day_cast : (day : ℕ) → day < 2 ^ 63 → to_z w64 (of_z w64 (pos day)) ≡ pos day
day_cast day within = let fits : FitsSigned w64 (pos day) = search rules in to_z-of_z w64 (pos day) fits

civil_of : (moment : ℕ) (date : Date) → IsCivil date.year date.month date.day (moment / 86400)
    → ◌≡◌ {A = Civil} (record { year = unsigned_abs (to_z w16 (of_z w16 date.year)); month = date.month; day = date.day; hour = moment % 86400 / 3600; minute = moment % 3600 / 60; second = moment % 60 }) (civil_by moment)
civil_of moment date found =
    let years : found.year ≡ year_at moment = sym found.year_by in
    let year : unsigned_abs (to_z w16 (of_z w16 date.year)) ≡ year_at moment = ap unsigned_abs (year_cast date.year found.year found.year_is found.year_fits) ∙ years in
    let months : date.month ≡ months_at moment + 1 = sym found.months_by ∙ ap (λ (y : ℕ). months_by y 11 (moment / 86400 + first_day - day_count (pos y) 1 1) + 1) years in
    let before : date.month - 1 ≡ months_at moment = omega (arith, months) in
    let days : date.day ≡ (civil_by moment).day =
    sym found.day_by
    ∙ ap (λ (y : ℕ). moment / 86400 + first_day - day_count (pos y) 1 1 - days_of_months (pos y) (date.month - 1) + 1) years
    ∙ ap (λ (k : ℕ). moment / 86400 + first_day - day_count (pos (year_at moment)) 1 1 - days_of_months (pos (year_at moment)) k + 1) before in
    λ i. record { year = year i; month = months i; day = days i; hour = moment % 86400 / 3600; minute = moment % 3600 / 60; second = moment % 60 }

module _ (c : goal.After-struct_told-1) where
  found : IsCivil c.unwrap-date.result.year c.unwrap-date.result.month c.unwrap-date.result.day (c.min-moment.result / 86400)
  found =
      let told = subst (λ r. IfOk r (λ d. epoch_day d ≡ to_z w64 (of_z w64 (pos (c.min-moment.result / 86400))))) c.unwrap-date.ensures c.from_unix_epoch_day.ensures.value in
      days_of c.min-moment.result (to_z w64 (of_z w64 (pos (c.min-moment.result / 86400)))) c.unwrap-date.result (day_cast (c.min-moment.result / 86400) (omega arith)) told

  cast : to_z w16 (of_z w16 c.unwrap-date.result.year) ≡ pos found.year
  cast = year_cast c.unwrap-date.result.year found.year found.year_is found.year_fits

pub overflow_cast-result : goal.overflow_cast-result
overflow_cast-result c = rw (cast c) (search rules)

pub returns-clause-value : goal.returns-clause-value
unfolding civil_at
returns-clause-value c = civil_of c.min-moment.result c.unwrap-date.result (found c) ∙ ap civil_by c.min-moment.ensures

pub returns-clause-year : goal.returns-clause-year
returns-clause-year c = let fits = (found c).year_fits in rw (cast c) (omega arith)

pub returns-clause-rest : goal.returns-clause-rest
returns-clause-rest c = let a = c.unwrap-date.result.month_in in let b = c.unwrap-date.result.day_in in search rules
