use Rattle.std.proofs.Common.{map, refl, subst}
use Rattle.kms_io.specs.Wire.{Wire}
use Rattle.kms_words.specs.Words.{serve_values_in}
use Rattle.kms_program.specs.Program.{everything, first_of, ServesConfig, configured, otherwise}
use Rattle.kms_program.proofs.serving.serve_file.Goals as goal

pub returns-in-Ok : goal.returns-in-Ok
returns-in-Ok g c =
    let told = g.C.Clock.told in
    let met = g.F.Files.shows c.obtain_config.new.files in
    let new = g.F.Files.shows c.serve_config.new.files in
    let door = g.D.Door.shows c.args.door.now in
    let clocks = map told c.args.clocks.now.items in
    let after = everything (g.L.Link.shows c.serve_config.new.link) new (g.D.Door.shows c.serve_config.new.door) (map told c.serve_config.new.clocks.items) in
    let found = c.in-Ok.ensures.config in
    let values = serve_values_in c.args.words.now in
    configured c.in-Ok.config met found.0 (record { policies = c.in-Ok.ensures.policies; callers = c.in-Ok.ensures.callers }) found.1
    (subst (λ (wire : Wire). ServesConfig c.in-Ok.config values c.serve_config.result (everything wire met door clocks) after) found.2 c.serve_config.ensures)

pub returns-in-Err : goal.returns-in-Err
returns-in-Err g c = otherwise (c.in-Err.ensures.status (first_of (map g.C.Clock.told c.args.clocks.now.items))) (record { door = refl; clocks = refl })
