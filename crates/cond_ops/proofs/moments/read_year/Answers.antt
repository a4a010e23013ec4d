use Rattle.std.proofs.Common.{◌≡◌, ◌<◌, ◌≤◌, length, true, false, refl, sym, ◌∙◌, lit≤, w16, arith}
use Rattle.std.specs.Str.Parse.{digits_value}
use Rattle.cond_ops.proofs.MomentFacts.{digits_read}
use Rattle.cond_ops.proofs.moments.read_year.Goals as goal

pub returns-then-is_digits : goal.returns-then-is_digits
returns-then-is_digits c =
    let text = c.args.text.now in
    let are = c.is_digits.ensures.0 c.if-is_digits.true in
    let long = are.0 in
    let some : 0 < length text = omega arith in
    let short : length text ≤ 4 = omega arith in
    rw (c.ok.ensures.value ∙ digits_read w16 text c.parse.result c.parse.ensures.value.0 are.1 some 4 short (lit≤ tt))
    (digits_value 10 text, refl, (long, (are.1, refl)))

pub returns-else-is_digits : goal.returns-else-is_digits
returns-else-is_digits c = λ n has. let both : false ≡ true = sym c.if-is_digits.false ∙ c.is_digits.ensures.1 (has.0, has.1.0) in cc
