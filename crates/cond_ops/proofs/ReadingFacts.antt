-- A text is read as one number, and as one moment; so what is read is compared as the relation says.
use Rattle.std.proofs.Common.{◌≡◌, ℕ, Bool, List, [], ◌∷◌, ◌++◌, refl, sym, ◌∙◌, ap, subst, ℤ, pos, Option, Some, None, arith, inl, inr}
use Rattle.std.specs.Prelude.{◌↔◌, ◌≢◌, IsTrue, MatchOption, is_some}
use Rattle.std.specs.List.{All}
use Rattle.std.proofs.lemmas.Fmt.{signed_decimal_injective}
use Rattle.jiff.specs.Words.{civil_seconds}
use Rattle.jiff_core.specs.declared.civil.datetime.DateTime.{DateTime}
use Rattle.cond_ops.specs.Number.{IsNumber}
use Rattle.cond_ops.specs.Moment.{IsSecondOf, IsDayAndTime, IsDay, IsSeconds, IsMoment}
use Rattle.cond_ops.proofs.CutFacts.{mark_stands}
use Rattle.cond_ops.proofs.NumberFacts.{small}
use Rattle.cond_ops.proofs.MomentFacts.{three_have_no, digits_have_no}
use Rattle.cond_ops.proofs.SecondFacts.{front_cut, back_cut, second_of_day, second_of_both}

pub one_number : (text : List ℕ) (x y : ℤ) → IsNumber text x → IsNumber text y → x ≡ y
one_number text x y here there = signed_decimal_injective x y (small x here.0) (small y there.0) (sym here.1 ∙ there.1)

same_seconds : (a b : DateTime) → a.date.year ≡ b.date.year → a.date.month ≡ b.date.month → a.date.day ≡ b.date.day
    → a.time.hour ≡ b.time.hour → a.time.minute ≡ b.time.minute → a.time.second ≡ b.time.second → civil_seconds a ≡ civil_seconds b
unfolding civil_seconds
same_seconds a b year month day hour minute second = cc

numbers : (m n k : ℕ) → pos m ≡ pos k → pos n ≡ pos k → m ≡ n
numbers m n k here there = cc

-- a day and a time have one second
one_second : (year month day hour minute second : ℕ) (x y : ℤ) → IsSecondOf year month day hour minute second x → IsSecondOf year month day hour minute second y → x ≡ y
unfolding IsSecondOf
one_second year month day hour minute second x y here there =
    let (a, day_a, time_a, is_a) = here.2 in
    let (b, day_b, time_b, is_b) = there.2 in
    let same = same_seconds a b (day_a.0 ∙ sym day_b.0) (numbers _ _ month day_a.1 day_b.1) (numbers _ _ day day_a.2 day_b.2)
    (numbers _ _ hour time_a.0 time_b.0) (numbers _ _ minute time_a.1 time_b.1) (numbers _ _ second time_a.2 time_b.2) in
    is_a ∙ (same ∙ sym is_b)

stands : (m : ℕ) (text front rest : List ℕ) → text ≡ front ++ m ∷ rest → All (λ c. c ≢ m) text → ⊥
stands m text front rest e none = mark_stands m front rest (subst (All (λ c. c ≢ m)) e none)

module _ (text : List ℕ) (x y : ℤ) where
  both_times : IsDayAndTime text x → IsDayAndTime text y → x ≡ y
  both_times here there =
      one_second here.2 here.3 here.4 here.5 here.6 here.7 x y here.11
      (second_of_both text here.0 (here.1 ++ 90 ∷ []) (front_cut text x here) here.1 []
      (back_cut text here.0 (here.1 ++ 90 ∷ []) (front_cut text x here) x here)
      here.2 here.3 here.4 here.5 here.6 here.7 here.9 here.10 y there)

  both_days : IsDay text x → IsDay text y → x ≡ y
  both_days here there = one_second here.0 here.1 here.2 0 0 0 x y here.4 (second_of_day text here.0 here.1 here.2 here.3 y there)

  time_and_day : IsDayAndTime text x → IsDay text y → ⊥
  time_and_day here there = stands 84 text here.0 (here.1 ++ 90 ∷ []) here.8 (three_have_no 84 45 4 text there.0 there.1 there.2 refl (λ e. absurd (omega arith)) there.3)

  time_and_seconds : IsDayAndTime text x → IsSeconds text y → ⊥
  time_and_seconds here there = stands 84 text here.0 (here.1 ++ 90 ∷ []) here.8 (digits_have_no 84 refl text there.2.1.0)

  day_and_seconds : IsDay text x → IsSeconds text y → ⊥
  day_and_seconds here there = stands 45 text here.3.0 (here.3.1 ++ 45 ∷ here.3.2) here.3.3 (digits_have_no 45 refl text there.2.1.0)

  both_seconds : IsSeconds text x → IsSeconds text y → x ≡ y
  both_seconds here there = here.2.2 ∙ (ap pos (here.2.1.1 ∙ sym there.2.1.1) ∙ sym there.2.2)

pub one_moment : (text : List ℕ) (x y : ℤ) → IsMoment text x → IsMoment text y → x ≡ y
one_moment text x y (inl here) (inl there) = both_times text x y here there
one_moment text x y (inl here) (inr (inl there)) = absurd (time_and_day text x y here there)
one_moment text x y (inl here) (inr (inr there)) = absurd (time_and_seconds text x y here there)
one_moment text x y (inr (inl here)) (inl there) = absurd (time_and_day text y x there here)
one_moment text x y (inr (inl here)) (inr (inl there)) = both_days text x y here there
one_moment text x y (inr (inl here)) (inr (inr there)) = absurd (day_and_seconds text x y here there)
one_moment text x y (inr (inr here)) (inl there) = absurd (time_and_seconds text y x there here)
one_moment text x y (inr (inr here)) (inr (inl there)) = absurd (day_and_seconds text y x there here)
one_moment text x y (inr (inr here)) (inr (inr there)) = both_seconds text x y here there

-- a form is read of a text where some number is
pub some_read : (Reads : ℤ → Type 0) (r : Option ℤ) → MatchOption r ((z : ℤ) → ¬ (Reads z)) Reads → (t : Bool) → t ≡ is_some r → IsTrue t ↔ ((z : ℤ) × Reads z)
some_read Reads None none t e = (λ holds. cc, λ read. absurd (none read.0 read.1))
some_read Reads (Some v) is t e = (λ holds. (v, is), λ read. e)
