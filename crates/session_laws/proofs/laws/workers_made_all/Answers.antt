use Rattle.session_laws.proofs.Makers.{workers_made_all}
use Rattle.session_laws.proofs.laws.workers_made_all.Goals as goal

pub returns : goal.returns
returns c = workers_made_all
