use Rattle.std.proofs.Common.{◌++◌, length, ap, arith, length-append}
use Rattle.kept_log.specs.Log.{batch_of, lines, recovered}
use Rattle.kept_log.proofs.Lines.{lines_append}
use Rattle.kept_log.proofs.log.KeptLog.is_full.Goals as goal

pub returns : goal.returns
returns g c =
    let s = c.args.self.now.settled c.requires in
    let bodies = recovered (g.D.Device.seen c.args.self.now.device) in
    let batch = batch_of c.args.bodies.now in
    let both = ap length (lines_append bodies batch) in
    let sum = length-append (lines bodies) (lines batch) in
    (λ yes. omega (arith, both, sum, s.ends, c.size_of.ensures, c.is_too_short_for.ensures.0 yes), λ high. c.is_too_short_for.ensures.1 (omega (arith, both, sum, s.ends, c.size_of.ensures, high)))
