use Rattle.account_lists.proofs.MarkerFacts.{read_back}
use Rattle.account_lists.proofs.laws.markers_read_back.Goals as goal

pub returns : goal.returns
returns c = read_back
