use Rattle.std.proofs.Common.{subst}
use Rattle.kms_io.specs.Wire.{Wire}
use Rattle.kms_words.specs.Words.{journal_in}
use Rattle.kms_program.specs.Program.{around, Conducts, Begins, with_settings}
use Rattle.kms_program.proofs.sessions.hold_session.Goals as goal

pub returns-in-Ok : goal.returns-in-Ok
returns-in-Ok g c =
    let met = g.F.Files.shows c.obtain_settings.new.files in
    let told = g.C.Clock.told c.args.clock.now in
    let after = around (g.L.Link.shows c.begin_session.new.link) (g.C.Clock.told c.begin_session.new.clock) (g.F.Files.shows c.begin_session.new.files) in
    let settings = c.in-Ok.settings in
    let found = c.in-Ok.ensures.settings in
    let status = c.begin_session.result in
    with_settings settings met found.0 (record { policies = c.in-Ok.ensures.policies; callers = c.in-Ok.ensures.trust }) found.1
    (subst (λ (wire : Wire). Begins settings.facts (journal_in c.args.session) status (around wire told met) after (λ account here. Conducts c.args.task account settings.trust status here after)) found.2
    c.begin_session.ensures)
