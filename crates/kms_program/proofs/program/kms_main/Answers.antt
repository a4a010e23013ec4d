use Rattle.kms_program.proofs.Completing.{completes}
use Rattle.kms_program.proofs.program.kms_main.Goals as goal

pub returns-clause-completes : goal.returns-clause-completes
returns-clause-completes g c = completes _ c.obey_words.result _ _ c.obey_words.ensures
