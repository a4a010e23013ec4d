use Rattle.cond_ops.proofs.SecondFacts.{seconds_read}
use Rattle.cond_ops.proofs.moments.read_seconds.Goals as goal

pub returns-then-is_digits : goal.returns-then-is_digits
returns-then-is_digits c =
    rw c.ok.ensures.value
    (seconds_read c.args.text.now c.parse.result c.parse.ensures.value.0 (c.is_digits.ensures.0 c.if-is_digits.true).1 c.if-text-le12.true)
