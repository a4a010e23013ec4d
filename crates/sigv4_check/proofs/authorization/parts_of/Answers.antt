use Rattle.sigv4_check.proofs.Claims.{not_three}
use Rattle.sigv4_check.proofs.authorization.parts_of.Goals as goal

pub returns-in-Some : goal.returns-in-Some
returns-in-Some c =
    not_three c.args.text.now c.in_ok-first.rest.now c.in_ok-second.third.now c.in-Some.field-0.1.now
    c.in_ok-first.first.now c.in_ok-second.second.now c.in-Some.field-0.0.now
    c.in_ok-first.ensures.0 c.in_ok-second.ensures.0 c.in-Some.ensures.0
