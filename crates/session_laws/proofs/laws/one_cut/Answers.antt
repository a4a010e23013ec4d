use Rattle.session_laws.proofs.OneCut.{one_cut_lem}
use Rattle.session_laws.proofs.laws.one_cut.Goals as goal

pub returns : goal.returns
returns c = λ stream closes other items others rest last h k e. one_cut_lem h k e
