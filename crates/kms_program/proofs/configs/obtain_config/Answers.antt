use Rattle.kms_program.specs.Program.{around}
use Rattle.kms_program.proofs.Programs.{refused_file}
use Rattle.kms_program.proofs.configs.obtain_config.Goals as goal

pub returns-in-Refused-clause-status : goal.returns-in-Refused-clause-status
returns-in-Refused-clause-status g c = λ clock.
    let old = g.F.Files.shows c.args.files.now in
    let new = g.F.Files.shows c.load_config.new.files in
    let before = around (g.L.Link.shows c.args.link.now) clock old in
    let after = around (g.L.Link.shows c.refuse.new.link) clock new in
    refused_file c.args.file.now c.in-Refused.path c.refuse.result before after c.in-Refused.ensures.loads.0 c.in-Refused.ensures.loads.1 (c.refuse.ensures clock old new)
