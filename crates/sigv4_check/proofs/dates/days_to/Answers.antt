use Rattle.std.proofs.Common.{◌≡◌, ◌∙◌, true, false, Some, Result, Ok, Err, sym, ap, subst, rules, FitsSigned, w32, to_z, of_z, pos}
use Rattle.std.specs.Prelude.{IfOk, unsigned_abs}
use Rattle.std.specs.Result.{result_ok}
use Rattle.std.proofs.lemmas.Int.{to_z-of_z}
use Rattle.sigv4_check.proofs.DateFacts.{no_day, could, no_date, counted, IsCount}
use Rattle.sigv4_check.proofs.dates.days_to.Goals as goal

pub returns-then-not-could_be_day-clause-value : goal.returns-then-not-could_be_day-clause-value
returns-then-not-could_be_day-clause-value c = no_day c.args.year c.args.month c.args.day c.if-not-could_be_day.ensures

pub returns-in_err-date-clause-value : goal.returns-in_err-date-clause-value
returns-in_err-date-clause-value c =
    let can = could c.args.year c.args.month c.args.day c.if-not-could_be_day.ensures in
    c.from_residual.ensures
    ∙ no_date c.args.year c.args.month c.args.day can (λ are. let both : false ≡ true = c.in_err-date.ensures.variant ∙ c.new.ensures.succeeds.1 are in cc)

of_ok : {T E : Type 0} (r : Result T E) (P : T → Type 0) (x : T) → IfOk r P → Some x ≡ result_ok r → P x
of_ok (Ok y) P x h e = let same : x ≡ y = cc in subst P (sym same) h
of_ok (Err y) P x h e = cc

module _ (c : goal.After-to_unix_epoch_day) where
  day_count_is : IsCount c.to_unix_epoch_day.result c.args.year c.args.month c.args.day
  day_count_is =
      let can = could c.args.year c.args.month c.args.day c.if-not-could_be_day.ensures in
      counted c.args.year c.args.month c.args.day can c.in_ok-date.date c.to_unix_epoch_day.result
      (c.new.ensures.succeeds.0 (sym c.in_ok-date.ensures.variant))
      (of_ok c.new.result _ c.in_ok-date.date c.new.ensures.value c.in_ok-date.ensures.value)
      c.to_unix_epoch_day.ensures.value c.to_unix_epoch_day.ensures.bound

  shown : to_z w32 (of_z w32 c.to_unix_epoch_day.result) ≡ pos day_count_is.count
  shown =
      let few = day_count_is.count_fits in
      let fits : FitsSigned w32 (pos day_count_is.count) = search rules in
      ap (λ z. to_z w32 (of_z w32 z)) day_count_is.count_is ∙ to_z-of_z w32 (pos day_count_is.count) fits

pub overflow_cast-result : goal.overflow_cast-result
overflow_cast-result c = let few = (day_count_is c).count_fits in rw (shown c) (search rules)

pub returns-clause-value : goal.returns-clause-value
returns-clause-value c = ap (λ z. Some (unsigned_abs z)) (shown c) ∙ (day_count_is c).days

pub returns-clause-few : goal.returns-clause-few
returns-clause-few c = let few = (day_count_is c).count_fits in rw (shown c) few
