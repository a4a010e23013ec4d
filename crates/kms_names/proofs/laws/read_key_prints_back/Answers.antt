use Rattle.kms_names.proofs.KeyTextFacts.{written_id, printed_back, key_is_id}
use Rattle.kms_names.proofs.laws.read_key_prints_back.Goals as goal

pub returns : goal.returns
returns c = λ text key reads. let written = written_id text key reads in (key_is_id text key written, printed_back text key written)
