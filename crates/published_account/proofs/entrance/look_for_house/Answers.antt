use Rattle.published_account.proofs.Turns.{turns, goes_self}
use Rattle.published_account.proofs.entrance.look_for_house.Goals as goal

pub enter_as-requires : goal.enter_as-requires
enter_as-requires g c x = turns _ _ x x (goes_self x)
