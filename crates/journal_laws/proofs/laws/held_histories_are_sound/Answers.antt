use Rattle.journal_laws.proofs.Sound.{held_is_sound}
use Rattle.journal_laws.proofs.laws.held_histories_are_sound.Goals as goal

pub returns : goal.returns
returns c = held_is_sound
