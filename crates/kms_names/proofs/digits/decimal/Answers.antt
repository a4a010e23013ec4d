use Rattle.std.proofs.Common.{sym, arith, ◌+◌}
use Rattle.kms_names.proofs.DigitLemmas.{more_digits, small_front}
use Rattle.kms_names.proofs.digits.decimal.Goals as goal

pub overflow_mul-number : goal.overflow_mul-number
overflow_mul-number c =
    let i = c.loop-digit.digit-index in
    let all = sym c.if-not-are_digits.ensures in
    let next = more_digits c.args.text.now i all c.loop-digit-test.true in
    let small = small_front c.args.text.now (i + 1) all (omega arith) in
    omega (arith, next, small, c.loop-digit.invariant)

pub overflow_add-number : goal.overflow_add-number
overflow_add-number c =
    let i = c.loop-digit.digit-index in
    let all = sym c.if-not-are_digits.ensures in
    let next = more_digits c.args.text.now i all c.loop-digit-test.true in
    let small = small_front c.args.text.now (i + 1) all (omega arith) in
    omega (arith, next, small, c.loop-digit.invariant, c.from.ensures)

pub loop-digit-preserved : goal.loop-digit-preserved
loop-digit-preserved c =
    let next = more_digits c.args.text.now c.loop-digit.digit-index (sym c.if-not-are_digits.ensures) c.loop-digit-test.true in
    omega (arith, next, c.loop-digit.invariant, c.from.ensures)
