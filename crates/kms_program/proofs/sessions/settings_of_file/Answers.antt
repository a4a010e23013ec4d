use Rattle.std.proofs.Common.{option_map, subst}
use Rattle.kms_io.specs.Wire.{Wire}
use Rattle.kms_program.specs.Program.{around, WithConfig, configured}
use Rattle.kms_program.proofs.Programs.{widened, on_status}
use Rattle.kms_program.proofs.sessions.settings_of_file.Goals as goal

pub returns-in-Ok-clause-status : goal.returns-in-Ok-clause-status
returns-in-Ok-clause-status g c =
    let old = g.F.Files.shows c.args.files.now in
    let new = g.F.Files.shows c.obtain_config.new.files in
    let after = g.L.Link.shows c.settings_of_config.new.link in
    let found = c.in-Ok.ensures.config in
    let caller = option_map (λ caller. caller.now) c.args.caller in
    on_status c.settings_of_config.result
    (λ status none clock. configured c.in-Ok.config found.0 (record { policies = c.in-Ok.ensures.policies; callers = c.in-Ok.ensures.callers }) found.1
    (subst (λ (wire : Wire). WithConfig c.in-Ok.config caller status (around wire clock old) (around after clock new) (λ settings. ⊥)) found.2 (none clock old new)))
    c.settings_of_config.ensures.status

pub returns-in-Err-clause-status : goal.returns-in-Err-clause-status
returns-in-Err-clause-status g c = λ clock. widened c.args.file.now c.in-Err.status _ _ _ (c.in-Err.ensures.status clock)
