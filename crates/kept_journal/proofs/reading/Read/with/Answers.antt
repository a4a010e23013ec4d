use Rattle.std.proofs.Common.{◌<◌, refl, arith}
use Rattle.kept_journal.proofs.Readings.{with_start, with_change}
use Rattle.kept_journal.proofs.reading.Read.with.Goals as goal

pub returns-in-Start-clause-with : goal.returns-in-Start-clause-with
returns-in-Start-clause-with c told so_far back seal =
    let low : c.args.self.last_start < c.in-Start.number = omega (arith, c.if-number-self.false) in
    (with_start c.args.self.account.facts told c.args.self c.args.told.now c.in-Start.number c.args.seal c.in-Start.is low so_far back seal, refl)

pub returns-in-Ok-clause-with : goal.returns-in-Ok-clause-with
returns-in-Ok-clause-with c told so_far back seal =
    (with_change c.args.self.account.facts told c.args.self c.in-Ok.account c.args.told.now c.in-Change.entry c.args.seal c.in-Change.is c.in-Ok.ensures.pushed c.in-Ok.ensures.fits so_far back seal, refl)
