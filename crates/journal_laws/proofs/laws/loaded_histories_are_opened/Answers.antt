use Rattle.journal_laws.proofs.Loaded.{loaded_opened}
use Rattle.journal_laws.proofs.laws.loaded_histories_are_opened.Goals as goal

pub returns : goal.returns
returns c = loaded_opened
