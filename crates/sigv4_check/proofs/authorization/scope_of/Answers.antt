use Rattle.sigv4_check.proofs.Claims.{no_scope}
use Rattle.sigv4_check.proofs.authorization.scope_of.Goals as goal

pub returns-then-not-is_of_service : goal.returns-then-not-is_of_service
returns-then-not-is_of_service c =
    no_scope c.args.text.now c.in_ok-id.rest.now c.in_ok-date.rest.now c.in_ok-region.rest.now c.in_ok-service.end.now
    c.in_ok-id.id.now c.in_ok-date.date.now c.in_ok-region.region.now c.in_ok-service.service.now
    c.in_ok-id.ensures.0 c.in_ok-date.ensures.0 c.in_ok-region.ensures.0 c.in_ok-service.ensures.0 c.if-not-is_of_service.ensures
