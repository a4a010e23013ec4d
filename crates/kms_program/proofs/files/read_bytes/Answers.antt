use Rattle.kms_config.proofs.KindFacts.{configured_kind}
use Rattle.kms_program.proofs.Configured.{callers_of}
use Rattle.kms_program.proofs.files.read_bytes.Goals as goal

pub returns-in-Ok-clause-callers : goal.returns-in-Ok-clause-callers
returns-in-Ok-clause-callers c = callers_of c.args.bytes.now c.in-Ok.config c.in-Ok.ensures.ok

pub returns-in-Ok-clause-policies : goal.returns-in-Ok-clause-policies
returns-in-Ok-clause-policies c =
    let both = configured_kind c.args.bytes.now c.in-Ok.config c.in-Ok.ensures.ok in
    record { own = both.0; ceiling = both.1 }
