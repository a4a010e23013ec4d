-- The tests of the forms of values decide the forms.
use Rattle.std.proofs.Common.{◌≡◌, ◌≢◌, ◌⊎◌, inl, inr, ℕ, zero, suc, ◌<◌, ◌≤◌, ◌^◌, Bool, true, false, ◌||◌, ◌&&◌, ◌==◌, List, [], ◌∷◌, ◌++◌, length, refl, sym, ap, ◌∙◌, subst, arith, lit<, if◌then◌else◌}
use Rattle.std.specs.Prelude.{ℤ, pos, negsuc, ◌≤ℤ◌, codes, nat_le, nat_lt, FitsSigned}
use Rattle.std.specs.Bool.{Decides}
use Rattle.std.specs.Char.{is_ascii_digit, digit_value}
use Rattle.std.specs.Fmt.{signed_decimal, decimal}
use Rattle.std.specs.Int.{w64}
use Rattle.std.specs.List.{AllPass}
use Rattle.std.specs.Str.{bytes_eq, str_to_ascii_lowercase}
use Rattle.std.specs.Str.Parse.{digits_value, IsNumeral}
use Rattle.std.proofs.lemmas.Bool.{and_parts, and_from, leb-true, le-leb, eqb-true, eq-eqb}
use Rattle.std.proofs.lemmas.Bool.Decides.{Decides-or, Decides-like, Decides-by_and, Decides-ltb}
use Rattle.std.proofs.lemmas.List.Elements.{All-nil, All-cons, All-head, All-tail}
use Rattle.std.proofs.lemmas.Fmt.{decimal_is_IsNumeral}
use Rattle.std.proofs.lemmas.Slice.Eq.{bytes_eq-Decides}
use Rattle.std.proofs.lemmas.Int.{ints}
use Rattle.kms_names.specs.Parts.{HasNoColon}
use Rattle.jiff_core.specs.Calendar.{IsYear, days_in_month}
use Rattle.jiff_core.specs.DateTime.{civil_seconds}
use Rattle.jiff_core.specs.declared.civil.datetime.DateTime.{DateTime}
use Rattle.cond_ops.specs.declared.operators.Operator.{Operator}
use Rattle.cond_ops.specs.declared.operators.Kind.{Kind}
use Rattle.cond_ops.specs.declared.operators.Kind.TheVariants.{Text, TextIgnoringCase, Pattern, Number, Date, Truth, Arn, Absence}
use Rattle.cond_ops.specs.Operator.{kind_of}
use Rattle.cond_ops.specs.Number.{IsNumber}
use Rattle.cond_ops.specs.Moment.{HasDigits, IsDayText, IsClockText, IsSecondOf, IsDay, IsDayAndTime, IsSeconds, IsMoment}
use Rattle.cond_ops.specs.Value.{IsTruth, HasColons, HasForm, IsValue}
use Rattle.policy_doc.specs.Values.{minus_of, integer_of, is_signed_64, is_number_text, is_digits, is_day, is_day_text, is_clock, is_clock_text, is_day_and_time_text, is_seconds_text, is_moment_text}
use Rattle.policy_doc.specs.Operators.{has_colons, has_form, is_value_text}

le_decides : (x y : ℕ) → Decides (nat_le x y) (x ≤ y)
le_decides x y = (leb-true x y, le-leb x y)

digits_decide : (text : List ℕ) → Decides (is_digits text) (AllPass is_ascii_digit text)
digits_decide text = Decides-by_and is_ascii_digit (λ x. is_ascii_digit x ≡ true) is_digits (λ x. (λ e. e, λ e. e)) refl (λ _ _. refl) text

-- ---- ARNs

colons_cons : (n c : ℕ) (text : List ℕ) → c ≢ 58 → HasColons (suc n) text → HasColons (suc n) (c ∷ text)
colons_cons n c text other (part, rest, none, e, more) = (c ∷ part, rest, All-cons (λ x. x ≢ 58) c part other none, ap (λ t. c ∷ t) e, more)

colons_stand : (n : ℕ) (text : List ℕ) → has_colons n text ≡ true → HasColons n text
colons_stand zero text t = tt
colons_stand (suc n) [] t = let bad : false ≡ true = t in absurd (cc)
colons_stand (suc n) (c ∷ text) t = by_test (c == 58) (eqb-true c 58) (eq-eqb c 58) (colons_stand n text) (colons_stand (suc n) text) t
  where
    by_test : (b : Bool) → (b ≡ true → c ≡ 58) → (c ≡ 58 → b ≡ true) → (has_colons n text ≡ true → HasColons n text) → (has_colons (suc n) text ≡ true → HasColons (suc n) text)
        → (if b then has_colons n text else has_colons (suc n) text) ≡ true → HasColons (suc n) (c ∷ text)
    by_test true is back here later t = ([], text, All-nil (λ x. x ≢ 58), ap (λ x. x ∷ text) (is refl), here t)
    by_test false is back here later t = colons_cons n c text (λ e. let bad : false ≡ true = back e in cc) (later t)

colons_behind : (n : ℕ) (part rest : List ℕ) → HasNoColon part → has_colons (suc n) (part ++ 58 ∷ rest) ≡ has_colons n rest
colons_behind n [] rest none = refl
colons_behind n (c ∷ part) rest none = by_test (c == 58) (eqb-true c 58) (colons_behind n part rest (All-tail (λ x. x ≢ 58) c part none))
  where
    by_test : (b : Bool) → (b ≡ true → c ≡ 58) → has_colons (suc n) (part ++ 58 ∷ rest) ≡ has_colons n rest
        → (if b then has_colons n (part ++ 58 ∷ rest) else has_colons (suc n) (part ++ 58 ∷ rest)) ≡ has_colons n rest
    by_test true is later = absurd (All-head (λ x. x ≢ 58) c part none (is refl))
    by_test false is later = later

colons_count : (n : ℕ) (text : List ℕ) → HasColons n text → has_colons n text ≡ true
colons_count zero text h = refl
colons_count (suc n) text (part, rest, none, e, more) = ap (has_colons (suc n)) e ∙ (colons_behind n part rest none ∙ colons_count n rest more)

-- ---- numbers

signed_64 : (z : ℤ) → Decides (is_signed_64 z) (FitsSigned w64 z)
signed_64 (pos n) = (λ t. record { sfits = (Decides-ltb n (2 ^ 63)).0 t }, λ h. (Decides-ltb n (2 ^ 63)).1 h.sfits)
signed_64 (negsuc n) = (λ t. record { sfits = (Decides-ltb n (2 ^ 63)).0 t }, λ h. (Decides-ltb n (2 ^ 63)).1 h.sfits)

integer_of-digits : (text : List ℕ) → IsNumeral 10 text → integer_of text ≡ pos (digits_value 10 text)
integer_of-digits [] numeral = let some : 0 < length {A = ℕ} [] = numeral.0 in absurd (omega arith)
integer_of-digits (c ∷ text) numeral = by_test (c == 45) (eqb-true c 45) numeral.1.0
  where
    by_test : (b : Bool) → (b ≡ true → c ≡ 45) → digit_value c < 10 → (if b then minus_of (digits_value 10 text) else pos (digits_value 10 (c ∷ text))) ≡ pos (digits_value 10 (c ∷ text))
    by_test true is digit = let bad : 36 < 10 = subst (λ x. digit_value x < 10) (is refl) digit in absurd (omega arith)
    by_test false is digit = refl

integer_of-decimal : (n : ℕ) → n < 2 ^ 64 → integer_of (decimal n) ≡ pos n
integer_of-decimal n small =
    let numeral = decimal_is_IsNumeral n small in
    integer_of-digits (decimal n) numeral.0 ∙ ap pos numeral.1

integer_of-signed : (z : ℤ) → FitsSigned w64 z → integer_of (signed_decimal z) ≡ z
integer_of-signed (pos n) fits = let small : n < 2 ^ 63 = fits.sfits in integer_of-decimal n (omega arith)
integer_of-signed (negsuc n) fits =
    let small : n < 2 ^ 63 = fits.sfits in
    let wide : suc n < 2 ^ 64 = omega arith in
    ap minus_of (decimal_is_IsNumeral (suc n) wide).1

number_decides : (text : List ℕ) → Decides (is_number_text text) ((z : ℤ) × IsNumber text z)
unfolding is_number_text
number_decides text = (
  λ t. let parts = and_parts (is_signed_64 (integer_of text)) (bytes_eq text (signed_decimal (integer_of text))) t in
      (integer_of text, ((signed_64 (integer_of text)).0 parts.0, (bytes_eq-Decides text (signed_decimal (integer_of text))).0 parts.1)),
  λ h. let is : integer_of text ≡ h.0 = ap integer_of h.1.1 ∙ integer_of-signed h.0 h.1.0 in
      and_from (is_signed_64 (integer_of text)) (bytes_eq text (signed_decimal (integer_of text)))
      ((signed_64 (integer_of text)).1 (subst (FitsSigned w64) (sym is) h.1.0))
      ((bytes_eq-Decides text (signed_decimal (integer_of text))).1 (h.1.1 ∙ ap signed_decimal (sym is))),
)

-- ---- dates

two : (P : List ℕ → Type 0) (text : List ℕ) → length text ≡ 2 → ((a b : ℕ) → P (a ∷ b ∷ [])) → P text
two P [] e f = absurd (omega arith)
two P (a ∷ []) e f = absurd (omega arith)
two P (a ∷ b ∷ []) e f = f a b
two P (a ∷ b ∷ c ∷ text) e f = absurd (omega arith)

four : (P : List ℕ → Type 0) (text : List ℕ) → length text ≡ 4 → ((a b c d : ℕ) → P (a ∷ b ∷ c ∷ d ∷ [])) → P text
four P [] e f = absurd (omega arith)
four P (a ∷ []) e f = absurd (omega arith)
four P (a ∷ b ∷ []) e f = absurd (omega arith)
four P (a ∷ b ∷ c ∷ []) e f = absurd (omega arith)
four P (a ∷ b ∷ c ∷ d ∷ []) e f = f a b c d
four P (a ∷ b ∷ c ∷ d ∷ x ∷ text) e f = absurd (omega arith)

day_explicit : (a b c d f g i j year month day : ℕ) → HasDigits 4 (a ∷ b ∷ c ∷ d ∷ []) year → HasDigits 2 (f ∷ g ∷ []) month → HasDigits 2 (i ∷ j ∷ []) day
    → is_day year month day ≡ true → is_day_text (a ∷ b ∷ c ∷ d ∷ 45 ∷ f ∷ g ∷ 45 ∷ i ∷ j ∷ []) ≡ true
unfolding is_day_text
day_explicit a b c d f g i j year month day y m k ok =
    let real = rw (y.1.1, m.1.1, k.1.1) at ok in
    and_from true _ refl (and_from _ _ (and_from _ _ ((digits_decide (a ∷ b ∷ c ∷ d ∷ [])).1 y.1.0) (and_from _ _ ((digits_decide (f ∷ g ∷ [])).1 m.1.0) ((digits_decide (i ∷ j ∷ [])).1 k.1.0))) real)

day_back : (text : List ℕ) (year month day : ℕ) → IsDayText text year month day → is_day year month day ≡ true → is_day_text text ≡ true
day_back text year month day (y, m, d, e, hy, hm, hd) ok =
    ap is_day_text e
    ∙ four (λ y. HasDigits 4 y year → is_day_text (y ++ 45 ∷ (m ++ 45 ∷ d)) ≡ true) y hy.0
    (λ a b c k hy. two (λ m. HasDigits 2 m month → is_day_text ((a ∷ b ∷ c ∷ k ∷ []) ++ 45 ∷ (m ++ 45 ∷ d)) ≡ true) m hm.0
    (λ f g hm. two (λ d. HasDigits 2 d day → is_day_text ((a ∷ b ∷ c ∷ k ∷ []) ++ 45 ∷ ((f ∷ g ∷ []) ++ 45 ∷ d)) ≡ true) d hd.0
    (λ i j hd. day_explicit a b c k f g i j year month day hy hm hd ok) hd) hm) hy

clock_explicit : (a b d e g h hour minute second : ℕ) → HasDigits 2 (a ∷ b ∷ []) hour → HasDigits 2 (d ∷ e ∷ []) minute → HasDigits 2 (g ∷ h ∷ []) second
    → is_clock hour minute second ≡ true → is_clock_text (a ∷ b ∷ 58 ∷ d ∷ e ∷ 58 ∷ g ∷ h ∷ []) ≡ true
unfolding is_clock_text
clock_explicit a b d e g h hour minute second x y z ok =
    let real = rw (x.1.1, y.1.1, z.1.1) at ok in
    and_from true _ refl (and_from _ _ (and_from _ _ ((digits_decide (a ∷ b ∷ [])).1 x.1.0) (and_from _ _ ((digits_decide (d ∷ e ∷ [])).1 y.1.0) ((digits_decide (g ∷ h ∷ [])).1 z.1.0))) real)

clock_back : (text : List ℕ) (hour minute second : ℕ) → IsClockText text hour minute second → is_clock hour minute second ≡ true → is_clock_text text ≡ true
clock_back text hour minute second (x, y, z, e, hx, hy, hz) ok =
    ap is_clock_text e
    ∙ two (λ x. HasDigits 2 x hour → is_clock_text (x ++ 58 ∷ (y ++ 58 ∷ z)) ≡ true) x hx.0
    (λ a b hx. two (λ y. HasDigits 2 y minute → is_clock_text ((a ∷ b ∷ []) ++ 58 ∷ (y ++ 58 ∷ z)) ≡ true) y hy.0
    (λ f g hy. two (λ z. HasDigits 2 z second → is_clock_text ((a ∷ b ∷ []) ++ 58 ∷ ((f ∷ g ∷ []) ++ 58 ∷ z)) ≡ true) z hz.0
    (λ i j hz. clock_explicit a b f g i j hour minute second hx hy hz ok) hz) hy) hx

day_parts : (text : List ℕ) → is_day_text text ≡ true → (year : ℕ) × (month : ℕ) × (day : ℕ) × IsDayText text year month day × (is_day year month day ≡ true)
unfolding is_day_text
day_parts (a ∷ b ∷ c ∷ d ∷ e ∷ f ∷ g ∷ h ∷ i ∷ j ∷ []) t =
    let real : Bool = is_day (digits_value 10 (a ∷ b ∷ c ∷ d ∷ [])) (digits_value 10 (f ∷ g ∷ [])) (digits_value 10 (i ∷ j ∷ [])) in
    let all : Bool = is_digits (a ∷ b ∷ c ∷ d ∷ []) && (is_digits (f ∷ g ∷ []) && is_digits (i ∷ j ∷ [])) in
    let outer = and_parts ((e == 45) && (h == 45)) (all && real) t in
    let marks = and_parts (e == 45) (h == 45) outer.0 in
    let rest = and_parts all real outer.1 in
    let digits = and_parts (is_digits (a ∷ b ∷ c ∷ d ∷ [])) (is_digits (f ∷ g ∷ []) && is_digits (i ∷ j ∷ [])) rest.0 in
    let more = and_parts (is_digits (f ∷ g ∷ [])) (is_digits (i ∷ j ∷ [])) digits.1 in
    let fifth : e ≡ 45 = eqb-true e 45 marks.0 in
    let eighth : h ≡ 45 = eqb-true h 45 marks.1 in (
      digits_value 10 (a ∷ b ∷ c ∷ d ∷ []),
      digits_value 10 (f ∷ g ∷ []),
      digits_value 10 (i ∷ j ∷ []),
      (
        a ∷ b ∷ c ∷ d ∷ [],
        f ∷ g ∷ [],
        i ∷ j ∷ [],
        ap (λ x. a ∷ b ∷ c ∷ d ∷ x ∷ f ∷ g ∷ h ∷ i ∷ j ∷ []) fifth ∙ ap (λ x. a ∷ b ∷ c ∷ d ∷ 45 ∷ f ∷ g ∷ x ∷ i ∷ j ∷ []) eighth,
        (refl, ((digits_decide (a ∷ b ∷ c ∷ d ∷ [])).0 digits.0, refl)),
        (refl, ((digits_decide (f ∷ g ∷ [])).0 more.0, refl)),
        (refl, ((digits_decide (i ∷ j ∷ [])).0 more.1, refl)),
      ),
      rest.1,
    )
day_parts _ t = let bad : false ≡ true = t in absurd (cc)

clock_parts : (text : List ℕ) → is_clock_text text ≡ true → (hour : ℕ) × (minute : ℕ) × (second : ℕ) × IsClockText text hour minute second × (is_clock hour minute second ≡ true)
unfolding is_clock_text
clock_parts (a ∷ b ∷ c ∷ d ∷ e ∷ f ∷ g ∷ h ∷ []) t =
    let real : Bool = is_clock (digits_value 10 (a ∷ b ∷ [])) (digits_value 10 (d ∷ e ∷ [])) (digits_value 10 (g ∷ h ∷ [])) in
    let all : Bool = is_digits (a ∷ b ∷ []) && (is_digits (d ∷ e ∷ []) && is_digits (g ∷ h ∷ [])) in
    let outer = and_parts ((c == 58) && (f == 58)) (all && real) t in
    let marks = and_parts (c == 58) (f == 58) outer.0 in
    let rest = and_parts all real outer.1 in
    let digits = and_parts (is_digits (a ∷ b ∷ [])) (is_digits (d ∷ e ∷ []) && is_digits (g ∷ h ∷ [])) rest.0 in
    let more = and_parts (is_digits (d ∷ e ∷ [])) (is_digits (g ∷ h ∷ [])) digits.1 in
    let third : c ≡ 58 = eqb-true c 58 marks.0 in
    let sixth : f ≡ 58 = eqb-true f 58 marks.1 in (
      digits_value 10 (a ∷ b ∷ []),
      digits_value 10 (d ∷ e ∷ []),
      digits_value 10 (g ∷ h ∷ []),
      (
        a ∷ b ∷ [],
        d ∷ e ∷ [],
        g ∷ h ∷ [],
        ap (λ x. a ∷ b ∷ x ∷ d ∷ e ∷ f ∷ g ∷ h ∷ []) third ∙ ap (λ x. a ∷ b ∷ 58 ∷ d ∷ e ∷ x ∷ g ∷ h ∷ []) sixth,
        (refl, ((digits_decide (a ∷ b ∷ [])).0 digits.0, refl)),
        (refl, ((digits_decide (d ∷ e ∷ [])).0 more.0, refl)),
        (refl, ((digits_decide (g ∷ h ∷ [])).0 more.1, refl)),
      ),
      rest.1,
    )
clock_parts _ t = let bad : false ≡ true = t in absurd (cc)

pos_le : (m n : ℕ) → m ≤ n → pos m ≤ℤ pos n
pos_le m n le = omega (arith, ints)

nat_le_from : (m n : ℕ) → pos m ≤ℤ pos n → m ≤ n
nat_le_from m n le = omega (arith, ints)

-- the second of a real day and time
second_exists : (year month day hour minute second : ℕ) → is_day year month day ≡ true → is_clock hour minute second ≡ true → (z : ℤ) × IsSecondOf year month day hour minute second z
unfolding IsSecondOf
second_exists year month day hour minute second d c =
    let years = and_parts (nat_le year 9999) ((nat_le 1 month && nat_le month 12) && (nat_le 1 day && nat_le day (days_in_month (pos year) month))) d in
    let others = and_parts (nat_le 1 month && nat_le month 12) (nat_le 1 day && nat_le day (days_in_month (pos year) month)) years.1 in
    let months = and_parts (nat_le 1 month) (nat_le month 12) others.0 in
    let days = and_parts (nat_le 1 day) (nat_le day (days_in_month (pos year) month)) others.1 in
    let hours = and_parts (nat_lt hour 24) (nat_lt minute 60 && nat_lt second 60) c in
    let later = and_parts (nat_lt minute 60) (nat_lt second 60) hours.1 in
    let y : year ≤ 9999 = (le_decides year 9999).0 years.0 in
    let m1 : 1 ≤ month = (le_decides 1 month).0 months.0 in
    let m2 : month ≤ 12 = (le_decides month 12).0 months.1 in
    let d1 : 1 ≤ day = (le_decides 1 day).0 days.0 in
    let d2 : day ≤ days_in_month (pos year) month = (le_decides day (days_in_month (pos year) month)).0 days.1 in
    let h : hour < 24 = (Decides-ltb hour 24).0 hours.0 in
    let n : minute < 60 = (Decides-ltb minute 60).0 later.0 in
    let s : second < 60 = (Decides-ltb second 60).0 later.1 in
    let in_years : IsYear (pos year) = (omega (arith, ints), pos_le year 9999 y) in
    let civil : DateTime = record {
      date = record { year = pos year; month = month; day = day; year_in = in_years; month_in = (m1, m2); day_in = (d1, d2) };
      time = record { hour = hour; minute = minute; second = second; subsec_nanosecond = 0; hour_in = h; minute_in = n; second_in = s; subsec_in = lit< tt };
    } in (
      civil_seconds civil,
      (
        (in_years, (pos_le 1 month m1, pos_le month 12 m2), (pos_le 1 day d1, pos_le day (days_in_month (pos year) month) d2)),
        (
          (pos_le 0 hour (omega arith), pos_le hour 23 (omega arith)),
          (pos_le 0 minute (omega arith), pos_le minute 59 (omega arith)),
          (pos_le 0 second (omega arith), pos_le second 59 (omega arith)),
          (pos_le 0 0 (omega arith), pos_le 0 999_999_999 (omega arith)),
        ),
        (civil, (refl, refl, refl), (refl, refl, refl, refl), refl),
      ),
    )

second_back : (year month day hour minute second : ℕ) (z : ℤ) → IsSecondOf year month day hour minute second z → (is_day year month day ≡ true) × (is_clock hour minute second ≡ true)
unfolding IsSecondOf
second_back year month day hour minute second z h =
    let date = h.0 in
    let time = h.1 in
    let hour_in : hour ≤ 23 = nat_le_from hour 23 time.0.1 in
    let minute_in : minute ≤ 59 = nat_le_from minute 59 time.1.1 in
    let second_in : second ≤ 59 = nat_le_from second 59 time.2.1 in (
      and_from _ _ ((le_decides year 9999).1 (nat_le_from year 9999 date.0.1))
          (and_from _ _ (and_from _ _ ((le_decides 1 month).1 (nat_le_from 1 month date.1.0)) ((le_decides month 12).1 (nat_le_from month 12 date.1.1)))
          (and_from _ _ ((le_decides 1 day).1 (nat_le_from 1 day date.2.0)) ((le_decides day (days_in_month (pos year) month)).1 (nat_le_from day (days_in_month (pos year) month) date.2.1)))),
      and_from _ _ ((Decides-ltb hour 24).1 (omega arith)) (and_from _ _ ((Decides-ltb minute 60).1 (omega arith)) ((Decides-ltb second 60).1 (omega arith))),
    )

day_decides : (text : List ℕ) → Decides (is_day_text text) ((z : ℤ) × IsDay text z)
day_decides text = (
  λ t. let parts = day_parts text t in
      let at = second_exists parts.0 parts.1 parts.2 0 0 0 parts.4 refl in
      (at.0, (parts.0, parts.1, parts.2, parts.3, at.1)),
  λ h. day_back text h.1.0 h.1.1 h.1.2 h.1.3 (second_back h.1.0 h.1.1 h.1.2 0 0 0 h.0 h.1.4).0,
)

seconds_decide : (text : List ℕ) → Decides (is_seconds_text text) ((z : ℤ) × IsSeconds text z)
seconds_decide text = (
  λ t. let outer = and_parts _ _ t in
      let sizes = and_parts _ _ outer.0 in (
        pos (digits_value 10 text),
        (
          (le_decides 1 (length text)).0 sizes.0,
          (le_decides (length text) 12).0 sizes.1,
          (digits_value 10 text, ((digits_decide text).0 outer.1, refl), refl),
        ),
      ),
  λ h. and_from _ _ (and_from _ _ ((le_decides 1 (length text)).1 h.1.0) ((le_decides (length text) 12).1 h.1.1)) ((digits_decide text).1 h.1.2.1.0),
)

both_explicit : (a b c d e f g h i j k l m n o p q r : ℕ) → is_day_text (a ∷ b ∷ c ∷ d ∷ e ∷ f ∷ g ∷ h ∷ i ∷ j ∷ []) ≡ true → is_clock_text (k ∷ l ∷ m ∷ n ∷ o ∷ p ∷ q ∷ r ∷ []) ≡ true
    → is_day_and_time_text (a ∷ b ∷ c ∷ d ∷ e ∷ f ∷ g ∷ h ∷ i ∷ j ∷ 84 ∷ k ∷ l ∷ m ∷ n ∷ o ∷ p ∷ q ∷ r ∷ 90 ∷ []) ≡ true
unfolding is_day_and_time_text
both_explicit a b c d e f g h i j k l m n o p q r x y = and_from _ _ x y

ten : (P : List ℕ → Type 0) (text : List ℕ) → is_day_text text ≡ true → ((a b c d e f g h i j : ℕ) → is_day_text (a ∷ b ∷ c ∷ d ∷ e ∷ f ∷ g ∷ h ∷ i ∷ j ∷ []) ≡ true → P (a ∷ b ∷ c ∷ d ∷ e ∷ f ∷ g ∷ h ∷ i ∷ j ∷ [])) → P text
unfolding is_day_text
ten P (a ∷ b ∷ c ∷ d ∷ e ∷ f ∷ g ∷ h ∷ i ∷ j ∷ []) t at = at a b c d e f g h i j t
ten P _ t at = let bad : false ≡ true = t in absurd (cc)

eight : (P : List ℕ → Type 0) (text : List ℕ) → is_clock_text text ≡ true → ((a b c d e f g h : ℕ) → is_clock_text (a ∷ b ∷ c ∷ d ∷ e ∷ f ∷ g ∷ h ∷ []) ≡ true → P (a ∷ b ∷ c ∷ d ∷ e ∷ f ∷ g ∷ h ∷ [])) → P text
unfolding is_clock_text
eight P (a ∷ b ∷ c ∷ d ∷ e ∷ f ∷ g ∷ h ∷ []) t at = at a b c d e f g h t
eight P _ t at = let bad : false ≡ true = t in absurd (cc)

both_joined : (front back : List ℕ) → is_day_text front ≡ true → is_clock_text back ≡ true → is_day_and_time_text (front ++ 84 ∷ (back ++ 90 ∷ [])) ≡ true
both_joined front back x y =
    ten (λ front. is_day_and_time_text (front ++ 84 ∷ (back ++ 90 ∷ [])) ≡ true) front x
    (λ a b c d e f g h i j x. eight (λ back. is_day_and_time_text ((a ∷ b ∷ c ∷ d ∷ e ∷ f ∷ g ∷ h ∷ i ∷ j ∷ []) ++ 84 ∷ (back ++ 90 ∷ [])) ≡ true) back y
    (λ k l m n o p q r y. both_explicit a b c d e f g h i j k l m n o p q r x y))

both_parts : (text : List ℕ) → is_day_and_time_text text ≡ true → (front : List ℕ) × (back : List ℕ) × (text ≡ front ++ 84 ∷ (back ++ 90 ∷ [])) × (is_day_text front ≡ true) × (is_clock_text back ≡ true)
unfolding is_day_and_time_text
both_parts (a ∷ b ∷ c ∷ d ∷ e ∷ f ∷ g ∷ h ∷ i ∷ j ∷ t ∷ k ∷ l ∷ m ∷ n ∷ o ∷ p ∷ q ∷ r ∷ z ∷ []) true_text =
    let outer = and_parts ((t == 84) && (z == 90)) (is_day_text (a ∷ b ∷ c ∷ d ∷ e ∷ f ∷ g ∷ h ∷ i ∷ j ∷ []) && is_clock_text (k ∷ l ∷ m ∷ n ∷ o ∷ p ∷ q ∷ r ∷ [])) true_text in
    let marks = and_parts (t == 84) (z == 90) outer.0 in
    let rest = and_parts (is_day_text (a ∷ b ∷ c ∷ d ∷ e ∷ f ∷ g ∷ h ∷ i ∷ j ∷ [])) (is_clock_text (k ∷ l ∷ m ∷ n ∷ o ∷ p ∷ q ∷ r ∷ [])) outer.1 in (
      a ∷ b ∷ c ∷ d ∷ e ∷ f ∷ g ∷ h ∷ i ∷ j ∷ [],
      k ∷ l ∷ m ∷ n ∷ o ∷ p ∷ q ∷ r ∷ [],
      ap (λ x. a ∷ b ∷ c ∷ d ∷ e ∷ f ∷ g ∷ h ∷ i ∷ j ∷ x ∷ k ∷ l ∷ m ∷ n ∷ o ∷ p ∷ q ∷ r ∷ z ∷ []) (eqb-true t 84 marks.0)
          ∙ ap (λ x. a ∷ b ∷ c ∷ d ∷ e ∷ f ∷ g ∷ h ∷ i ∷ j ∷ 84 ∷ k ∷ l ∷ m ∷ n ∷ o ∷ p ∷ q ∷ r ∷ x ∷ []) (eqb-true z 90 marks.1),
      rest.0,
      rest.1,
    )
both_parts _ true_text = let bad : false ≡ true = true_text in absurd (cc)

day_and_time_decides : (text : List ℕ) → Decides (is_day_and_time_text text) ((z : ℤ) × IsDayAndTime text z)
day_and_time_decides text = (some, back)
  where
    some : is_day_and_time_text text ≡ true → (z : ℤ) × IsDayAndTime text z
    some t =
        let parts = both_parts text t in
        let d = day_parts parts.0 parts.3 in
        let c = clock_parts parts.1 parts.4 in
        let at = second_exists d.0 d.1 d.2 c.0 c.1 c.2 d.4 c.4 in
        (at.0, (parts.0, parts.1, d.0, d.1, d.2, c.0, c.1, c.2, parts.2, d.3, c.3, at.1))

    back : (z : ℤ) × IsDayAndTime text z → is_day_and_time_text text ≡ true
    back (z, (front, behind, year, month, day, hour, minute, second, e, d, c, at)) =
        let tests = second_back year month day hour minute second z at in
        ap is_day_and_time_text e ∙ both_joined front behind (day_back front year month day d tests.0) (clock_back behind hour minute second c tests.1)

moment_decides : (text : List ℕ) → Decides (is_moment_text text) ((z : ℤ) × IsMoment text z)
unfolding is_moment_text
moment_decides text =
    Decides-like _ to back (Decides-or _ _ (day_and_time_decides text) (Decides-or _ _ (day_decides text) (seconds_decide text)))
  where
    to : ((z : ℤ) × IsDayAndTime text z) ⊎ (((z : ℤ) × IsDay text z) ⊎ ((z : ℤ) × IsSeconds text z)) → (z : ℤ) × IsMoment text z
    to (inl (z, h)) = (z, inl h)
    to (inr (inl (z, h))) = (z, inr (inl h))
    to (inr (inr (z, h))) = (z, inr (inr h))

    back : (z : ℤ) × IsMoment text z → ((z : ℤ) × IsDayAndTime text z) ⊎ (((z : ℤ) × IsDay text z) ⊎ ((z : ℤ) × IsSeconds text z))
    back (z, inl h) = inl (z, h)
    back (z, inr (inl h)) = inr (inl (z, h))
    back (z, inr (inr h)) = inr (inr (z, h))

-- ---- all kinds

truth_decides : (text : List ℕ) → Decides (bytes_eq (str_to_ascii_lowercase text) (codes "true") || bytes_eq (str_to_ascii_lowercase text) (codes "false")) ((b : Bool) × IsTruth text b)
truth_decides text =
    Decides-like _ to back (Decides-or _ _ (bytes_eq-Decides (str_to_ascii_lowercase text) (codes "true")) (bytes_eq-Decides (str_to_ascii_lowercase text) (codes "false")))
  where
    to : (str_to_ascii_lowercase text ≡ codes "true") ⊎ (str_to_ascii_lowercase text ≡ codes "false") → (b : Bool) × IsTruth text b
    to (inl e) = (true, e)
    to (inr e) = (false, e)

    back : (b : Bool) × IsTruth text b → (str_to_ascii_lowercase text ≡ codes "true") ⊎ (str_to_ascii_lowercase text ≡ codes "false")
    back (true, e) = inl e
    back (false, e) = inr e

form_decides : (kind : Kind) (text : List ℕ) → Decides (has_form kind text) (HasForm kind text)
form_decides Text text = (λ _. tt, λ _. refl)
form_decides TextIgnoringCase text = (λ _. tt, λ _. refl)
form_decides Pattern text = (λ _. tt, λ _. refl)
form_decides (Number order) text = number_decides text
form_decides (Date order) text = moment_decides text
form_decides Truth text = truth_decides text
form_decides Arn text = (colons_stand 5 text, colons_count 5 text)
form_decides Absence text = Decides-or _ _ (bytes_eq-Decides text (codes "true")) (bytes_eq-Decides text (codes "false"))

pub value_decides : (operator : Operator) (text : List ℕ) → Decides (is_value_text operator text) (IsValue operator text)
value_decides operator text = form_decides (kind_of operator) text
