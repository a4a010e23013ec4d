use Rattle.std.proofs.Common.{refl}
use Rattle.cond_ops.specs.Moment.{IsDay}
use Rattle.cond_ops.proofs.SecondFacts.{by_second, second_of_day}
use Rattle.cond_ops.proofs.moments.read_date.Goals as goal

pub returns-in_err-read_day : goal.returns-in_err-read_day
returns-in_err-read_day c = rw c.from_residual.ensures (λ z is. c.in_err-read_day.ensures is.0 is.1 is.2 is.3)

pub returns : goal.returns
returns c =
    let day = c.in_ok-read_day.ensures in
    by_second (IsDay c.args.text.now) _ _ day.0 day.1 day.2 0 0 0 day.3 (refl, refl, refl) c.second_of.result c.second_of.ensures
    (second_of_day c.args.text.now day.0 day.1 day.2 day.4)
    (λ z is. (day.0, day.1, day.2, day.4, is))
