use Rattle.std.proofs.Common.{refl}
use Rattle.cond_ops.proofs.MomentFacts.{three_parts}
use Rattle.cond_ops.proofs.moments.read_clock.Goals as goal

pub returns-in_err-read_pair : goal.returns-in_err-read_pair
returns-in_err-read_pair c =
    rw c.from_residual-in_err-read_pair.ensures (λ hour minute second is.
    c.in_err-read_pair.ensures hour (three_parts 58 c.args.text.now _ _ _ c.in_ok-hour.ensures refl 2 hour minute second is).0)

pub returns-in_err-read_pair-2 : goal.returns-in_err-read_pair-2
returns-in_err-read_pair-2 c =
    rw c.from_residual-in_err-read_pair-2.ensures (λ hour minute second is.
    c.in_err-read_pair-2.ensures minute (three_parts 58 c.args.text.now _ _ _ c.in_ok-hour.ensures refl 2 hour minute second is).1)

pub returns-in_err-read_pair-3 : goal.returns-in_err-read_pair-3
returns-in_err-read_pair-3 c =
    rw c.from_residual-in_err-read_pair-3.ensures (λ hour minute second is.
    c.in_err-read_pair-3.ensures second (three_parts 58 c.args.text.now _ _ _ c.in_ok-hour.ensures refl 2 hour minute second is).2)
