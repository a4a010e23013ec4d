use Rattle.pass_laws.proofs.Rests.{rests}
use Rattle.pass_laws.proofs.laws.house_owes_nothing_more.Goals as goal

pub returns : goal.returns
returns c = rests c.house_is_kept_once.ensures
