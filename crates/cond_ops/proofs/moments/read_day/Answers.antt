use Rattle.std.proofs.Common.{refl}
use Rattle.cond_ops.proofs.MomentFacts.{three_parts}
use Rattle.cond_ops.proofs.moments.read_day.Goals as goal

pub returns-in_err-read_year : goal.returns-in_err-read_year
returns-in_err-read_year c =
    rw c.from_residual-in_err-read_year.ensures (λ year month day is.
    c.in_err-read_year.ensures year (three_parts 45 c.args.text.now _ _ _ c.in_ok-year.ensures refl 4 year month day is).0)

pub returns-in_err-read_pair : goal.returns-in_err-read_pair
returns-in_err-read_pair c =
    rw c.from_residual-in_err-read_pair.ensures (λ year month day is.
    c.in_err-read_pair.ensures month (three_parts 45 c.args.text.now _ _ _ c.in_ok-year.ensures refl 4 year month day is).1)

pub returns-in_err-read_pair-2 : goal.returns-in_err-read_pair-2
returns-in_err-read_pair-2 c =
    rw c.from_residual-in_err-read_pair-2.ensures (λ year month day is.
    c.in_err-read_pair-2.ensures day (three_parts 45 c.args.text.now _ _ _ c.in_ok-year.ensures refl 4 year month day is).2)
