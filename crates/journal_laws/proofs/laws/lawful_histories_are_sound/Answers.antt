use Rattle.journal_laws.proofs.Sound.{lawful_is_sound}
use Rattle.journal_laws.proofs.laws.lawful_histories_are_sound.Goals as goal

pub returns : goal.returns
returns c = lawful_is_sound
