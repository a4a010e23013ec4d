use Rattle.std.proofs.Common.{subst}
use Rattle.kms_io.specs.Wire.{Wire}
use Rattle.kms_program.specs.Program.{around, Conducts, begun, not_begun}
use Rattle.kms_program.proofs.sessions.begin_session.Goals as goal

pub returns-in-Ok : goal.returns-in-Ok
returns-in-Ok g c =
    let met = g.F.Files.shows c.obtain_account.new.files in
    let told = g.C.Clock.told c.args.clock.now in
    let after = around (g.L.Link.shows c.conduct.new.link) (g.C.Clock.told c.conduct.new.clock) met in
    let found = c.in-Ok.ensures.account in
    begun c.in-Ok.account met found.0 found.1
    (subst (λ (wire : Wire). Conducts c.args.task c.in-Ok.account c.args.settings.trust c.conduct.result (around wire told met) after) found.2 (c.conduct.ensures met))

pub returns : goal.returns
returns g c = not_begun (c.in-Err.ensures.status (g.C.Clock.told c.args.clock.now))
