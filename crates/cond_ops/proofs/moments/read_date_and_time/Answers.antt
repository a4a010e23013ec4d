use Rattle.std.proofs.Common.{sym, ◌∙◌}
use Rattle.cond_ops.specs.Moment.{IsDayAndTime}
use Rattle.cond_ops.proofs.SecondFacts.{by_second, no_back, no_day, no_clock, no_end, second_of_both, both_of_second, empty_by, not_empty_by}
use Rattle.cond_ops.proofs.moments.read_date_and_time.Goals as goal

pub returns-in_err-clock : goal.returns-in_err-clock
returns-in_err-clock c =
    rw c.from_residual-in_err-clock.ensures (no_back c.args.text.now _ _ c.in_ok-day.ensures c.in_err-clock.ensures)

pub returns-in_err-read_day : goal.returns-in_err-read_day
returns-in_err-read_day c =
    rw c.from_residual-in_err-read_day.ensures (no_day c.args.text.now _ _ c.in_ok-day.ensures _ _ c.in_ok-clock.ensures c.in_err-read_day.ensures)

pub returns-in_err-read_clock : goal.returns-in_err-read_clock
returns-in_err-read_clock c =
    rw c.from_residual-in_err-read_clock.ensures (no_clock c.args.text.now _ _ c.in_ok-day.ensures _ _ c.in_ok-clock.ensures c.in_err-read_clock.ensures)

pub returns-in_ok-read_clock : goal.returns-in_ok-read_clock
returns-in_ok-read_clock c =
    let text = c.args.text.now in
    let day = c.in_ok-read_day.ensures in
    let clock = c.in_ok-read_clock.ensures in
    by_second (IsDayAndTime text) _ _ day.0 day.1 day.2 clock.0 clock.1 clock.2 day.3 clock.3 c.second_of.result c.second_of.ensures
    (second_of_both text _ _ c.in_ok-day.ensures _ _ c.in_ok-clock.ensures day.0 day.1 day.2 clock.0 clock.1 clock.2 day.4 clock.4)
    (both_of_second text _ _ c.in_ok-day.ensures _ _ c.in_ok-clock.ensures day.0 day.1 day.2 clock.0 clock.1 clock.2 day.4 clock.4
    (empty_by c.in_ok-clock.end.now (sym c.is_empty.ensures ∙ c.if-is_empty.true)))

pub returns-else-is_empty : goal.returns-else-is_empty
returns-else-is_empty c =
    no_end c.args.text.now _ _ c.in_ok-day.ensures _ _ c.in_ok-clock.ensures (not_empty_by c.in_ok-clock.end.now (sym c.is_empty.ensures ∙ c.if-is_empty.false))
