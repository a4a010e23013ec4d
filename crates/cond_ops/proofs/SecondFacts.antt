-- The second of a day and a time, and of a date in each form.
use Rattle.std.proofs.Common.{◌≡◌, ◌≢◌, ◌⊎◌, ℕ, ◌<◌, ◌≤◌, ◌^◌, true, false, List, [], ◌∷◌, ◌++◌, length, refl, sym, ◌∙◌, ap, subst, ℤ, pos, Result, Ok, Err, Option, Some, None, w64, arith, rules, inl, inr, nat_eq}
use Rattle.std.specs.Prelude.{MatchOption, IfOk}
use Rattle.std.specs.Char.{is_ascii_digit}
use Rattle.std.specs.List.{AllPass}
use Rattle.std.specs.Result.{result_ok, OkIff}
use Rattle.std.specs.Str.Parse.{ParsesSigned, digits_value}
use Rattle.jiff.specs.Words.{IsDate, IsTime, IsYmd, IsHms, civil_seconds}
use Rattle.jiff_core.specs.declared.civil.datetime.DateTime.{DateTime}
use Rattle.cond_ops.specs.Cut.{IsCutAt}
use Rattle.cond_ops.specs.Moment.{IsDayText, IsClockText, IsSecondOf, IsDay, IsDayAndTime, IsSeconds}
use Rattle.cond_ops.specs.Fields.{HasDay, HasClock, IsReadSecond}
use Rattle.cond_ops.specs.declared.moments.Day.{Day}
use Rattle.cond_ops.specs.declared.moments.Clock.{Clock}
use Rattle.cond_ops.proofs.CutFacts.{same_cut}
use Rattle.std.proofs.lemmas.Str.Parse.{parse_signed_digits, digits_value_short}
use Rattle.cond_ops.proofs.MomentFacts.{own, same_three, three_have_no}

pub of_ok : {T E : Type 0} (r : Result T E) (P : T → Type 0) (x : T) → IfOk r P → Some x ≡ result_ok r → P x
of_ok (Ok y) P x h e = let same : x ≡ y = cc in subst P (sym same) h
of_ok (Err y) P x h e = cc

-- the second of the numbers that a day and a time have
module _ (y mo d h mi s : ℤ) (year month day hour minute second : ℕ)
    (is_y : y ≡ pos year) (is_mo : mo ≡ pos month) (is_d : d ≡ pos day) (is_h : h ≡ pos hour) (is_mi : mi ≡ pos minute) (is_s : s ≡ pos second) where
  pub second_is : IsDate y mo d → IsTime h mi s (pos 0) → (civil : DateTime) → IsYmd y mo d civil.date → IsHms h mi s (pos 0) civil.time → (z : ℤ) → z ≡ civil_seconds civil
      → IsSecondOf year month day hour minute second z
  unfolding IsSecondOf
  second_is date time civil ymd hms z e = (
    subst (λ v. IsDate v (pos month) (pos day)) is_y (subst (λ v. IsDate y v (pos day)) is_mo (subst (λ v. IsDate y mo v) is_d date)),
    subst (λ v. IsTime v (pos minute) (pos second) (pos 0)) is_h (subst (λ v. IsTime h v (pos second) (pos 0)) is_mi (subst (λ v. IsTime h mi v (pos 0)) is_s time)),
    (
      civil,
      subst (λ v. IsYmd v (pos month) (pos day) civil.date) is_y (subst (λ v. IsYmd y v (pos day) civil.date) is_mo (subst (λ v. IsYmd y mo v civil.date) is_d ymd)),
      subst (λ v. IsHms v (pos minute) (pos second) (pos 0) civil.time) is_h (subst (λ v. IsHms h v (pos second) (pos 0) civil.time) is_mi (subst (λ v. IsHms h mi v (pos 0) civil.time) is_s hms)),
      e,
    ),
  )

  pub no_second : ¬ (IsDate y mo d × IsTime h mi s (pos 0)) → (z : ℤ) → ¬ (IsSecondOf year month day hour minute second z)
  unfolding IsSecondOf
  no_second none z is = none (
    subst (λ v. IsDate v mo d) (sym is_y) (subst (λ v. IsDate (pos year) v d) (sym is_mo) (subst (λ v. IsDate (pos year) (pos month) v) (sym is_d) is.0)),
    subst (λ v. IsTime v mi s (pos 0)) (sym is_h) (subst (λ v. IsTime (pos hour) v s (pos 0)) (sym is_mi) (subst (λ v. IsTime (pos hour) (pos minute) v (pos 0)) (sym is_s) is.1)),
  )

-- what the second of a day and a time says of a form whose second it is
module _ (P : ℤ → Type 0) (d : Day) (t : Clock) (year month day hour minute second : ℕ) (has_day : HasDay d year month day) (has_clock : HasClock t hour minute second) where
  pub by_second : (result : Option ℤ) → IsReadSecond d t result → ((z : ℤ) → P z → IsSecondOf year month day hour minute second z) → ((z : ℤ) → IsSecondOf year month day hour minute second z → P z)
      → MatchOption result ((z : ℤ) → ¬ (P z)) P
  by_second None reads to from = λ z p. reads year month day hour minute second has_day has_clock z (to z p)
  by_second (Some z) reads to from = from z (reads year month day hour minute second has_day has_clock)

-- the day of a text, and its midnight
pub second_of_day : (text : List ℕ) (year month day : ℕ) → IsDayText text year month day → (z : ℤ) → IsDay text z → IsSecondOf year month day 0 0 0 z
second_of_day text year month day here z is =
    let same = same_three 45 4 text refl is.0 is.1 is.2 year month day is.3 here in
    subst (λ v. IsSecondOf v month day 0 0 0 z) same.0 (subst (λ v. IsSecondOf is.0 v day 0 0 0 z) same.1 (subst (λ v. IsSecondOf is.0 is.1 v 0 0 0 z) same.2 is.4))

-- the parts of a day and a time
module _ (text : List ℕ) where
  pub front_cut : (z : ℤ) → (is : IsDayAndTime text z) → IsCutAt 84 text is.0 (is.1 ++ 90 ∷ [])
  front_cut z is = (three_have_no 84 45 4 is.0 is.2 is.3 is.4 refl (λ e. absurd (omega arith)) is.9, is.8)

  pub no_front : ((part rest : List ℕ) → ¬ (IsCutAt 84 text part rest)) → (z : ℤ) → ¬ (IsDayAndTime text z)
  no_front none z is = none is.0 (is.1 ++ 90 ∷ []) (front_cut z is)

  module _ (part rest : List ℕ) (cut : IsCutAt 84 text part rest) where
    fronts : (z : ℤ) → (is : IsDayAndTime text z) → (is.0 ≡ part) × (is.1 ++ 90 ∷ [] ≡ rest)
    fronts z is = same_cut 84 text is.0 (is.1 ++ 90 ∷ []) part rest (front_cut z is) cut

    pub back_cut : (z : ℤ) → (is : IsDayAndTime text z) → IsCutAt 90 rest is.1 []
    back_cut z is = (three_have_no 90 58 2 is.1 is.5 is.6 is.7 refl (λ e. absurd (omega arith)) is.10, sym (fronts z is).1)

    pub no_back : ((a b : List ℕ) → ¬ (IsCutAt 90 rest a b)) → (z : ℤ) → ¬ (IsDayAndTime text z)
    no_back none z is = none is.1 [] (back_cut z is)

    module _ (clock end : List ℕ) (mark : IsCutAt 90 rest clock end) where
      backs : (z : ℤ) → (is : IsDayAndTime text z) → (is.1 ≡ clock) × ([] ≡ end)
      backs z is = same_cut 90 rest is.1 [] clock end (back_cut z is) mark

      pub no_end : end ≢ [] → (z : ℤ) → ¬ (IsDayAndTime text z)
      no_end more z is = more (sym (backs z is).1)

      pub no_day : ((year month day : ℕ) → ¬ (IsDayText part year month day)) → (z : ℤ) → ¬ (IsDayAndTime text z)
      no_day none z is = none is.2 is.3 is.4 (subst (λ v. IsDayText v is.2 is.3 is.4) (fronts z is).0 is.9)

      pub no_clock : ((hour minute second : ℕ) → ¬ (IsClockText clock hour minute second)) → (z : ℤ) → ¬ (IsDayAndTime text z)
      no_clock none z is = none is.5 is.6 is.7 (subst (λ v. IsClockText v is.5 is.6 is.7) (backs z is).0 is.10)

      module _ (year month day hour minute second : ℕ) (has_day : IsDayText part year month day) (has_clock : IsClockText clock hour minute second) where
        pub second_of_both : (z : ℤ) → IsDayAndTime text z → IsSecondOf year month day hour minute second z
        second_of_both z is =
            let one = same_three 45 4 part refl is.2 is.3 is.4 year month day (subst (λ v. IsDayText v is.2 is.3 is.4) (fronts z is).0 is.9) has_day in
            let two = same_three 58 2 clock refl is.5 is.6 is.7 hour minute second (subst (λ v. IsClockText v is.5 is.6 is.7) (backs z is).0 is.10) has_clock in
            subst (λ v. IsSecondOf v month day hour minute second z) one.0
            (subst (λ v. IsSecondOf is.2 v day hour minute second z) one.1
            (subst (λ v. IsSecondOf is.2 is.3 v hour minute second z) one.2
            (subst (λ v. IsSecondOf is.2 is.3 is.4 v minute second z) two.0
            (subst (λ v. IsSecondOf is.2 is.3 is.4 is.5 v second z) two.1
            (subst (λ v. IsSecondOf is.2 is.3 is.4 is.5 is.6 v z) two.2 is.11)))))

        pub both_of_second : end ≡ [] → (z : ℤ) → IsSecondOf year month day hour minute second z → IsDayAndTime text z
        both_of_second none z is =
            let eq : text ≡ part ++ 84 ∷ (clock ++ 90 ∷ []) = cut.1 ∙ ap (λ v. part ++ 84 ∷ v) (mark.1 ∙ ap (λ v. clock ++ 90 ∷ v) none) in
            (part, clock, year, month, day, hour, minute, second, eq, has_day, has_clock, is)

-- seconds in digits
seconds_by : {E : Type 0} (text : List ℕ) (r : Result ℤ E) → OkIff r ((0 < length text) × (digits_value 10 text < 2 ^ 63)) (pos (digits_value 10 text))
    → AllPass is_ascii_digit text → length text ≤ 12 → digits_value 10 text < 2 ^ 63 → MatchOption (result_ok r) ((z : ℤ) → ¬ (IsSeconds text z)) (IsSeconds text)
seconds_by text (Ok x) h digits short fits = (omega arith, short, (digits_value 10 text, (digits, refl), h.1))
seconds_by text (Err e) h digits short fits = λ z is. h (omega arith, fits)

pub seconds_read : {E : Type 0} (text : List ℕ) (r : Result ℤ E) → ParsesSigned w64 10 text r → AllPass is_ascii_digit text → length text ≤ 12
    → MatchOption (result_ok r) ((z : ℤ) → ¬ (IsSeconds text z)) (IsSeconds text)
seconds_read text r parses digits short =
    let below : digits_value 10 text < 10 ^ 12 = digits_value_short own text 12 digits short in
    let fits : digits_value 10 text < 2 ^ 63 = omega arith in
    seconds_by text r (parse_signed_digits own w64 text r parses digits) digits short fits

-- the last of three forms, of a text that has neither of the others
module _ (A B C : ℤ → Type 0) where
  pub third_of_three : (c : Option ℤ) → ((z : ℤ) → ¬ (A z)) → ((z : ℤ) → ¬ (B z)) → MatchOption c ((z : ℤ) → ¬ (C z)) C
      → MatchOption c ((z : ℤ) → ¬ (A z ⊎ (B z ⊎ C z))) (λ z. A z ⊎ (B z ⊎ C z))
  third_of_three (Some c) x y z = inr (inr z)
  third_of_three None x y z = λ v is. none_of v is
    where
      none_of : (v : ℤ) → ¬ (A v ⊎ (B v ⊎ C v))
      none_of v (inl h) = x v h
      none_of v (inr (inl h)) = y v h
      none_of v (inr (inr h)) = z v h

pub empty_by : (xs : List ℕ) → nat_eq (length xs) 0 ≡ true → xs ≡ []
empty_by [] h = refl
empty_by (x ∷ xs) h = let none : length (x ∷ xs) ≡ 0 = search rules in absurd (omega arith)

pub not_empty_by : (xs : List ℕ) → nat_eq (length xs) 0 ≡ false → xs ≢ []
not_empty_by xs h e = let both : nat_eq 0 0 ≡ false = subst (λ v. nat_eq (length v) 0 ≡ false) e h in cc
