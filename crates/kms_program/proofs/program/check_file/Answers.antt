use Rattle.std.proofs.Common.{subst}
use Rattle.kms_io.specs.Wire.{Wire}
use Rattle.kms_program.specs.Program.{around, Checks, configured}
use Rattle.kms_program.proofs.Programs.{widened}
use Rattle.kms_program.proofs.program.check_file.Goals as goal

pub returns-in-Ok : goal.returns-in-Ok
returns-in-Ok g c = λ clock.
    let old = g.F.Files.shows c.args.files.now in
    let new = g.F.Files.shows c.obtain_config.new.files in
    let after = around (g.L.Link.shows c.check_config.new.link) clock new in
    let found = c.in-Ok.ensures.config in
    configured c.in-Ok.config found.0 (record { policies = c.in-Ok.ensures.policies; callers = c.in-Ok.ensures.callers }) found.1 (subst (λ (wire : Wire). Checks c.in-Ok.config c.check_config.result (around wire clock old) after) found.2 (c.check_config.ensures clock old new))

pub returns-in-Err : goal.returns-in-Err
returns-in-Err g c = λ clock. widened c.args.file.now c.in-Err.status _ _ _ (c.in-Err.ensures.status clock)
