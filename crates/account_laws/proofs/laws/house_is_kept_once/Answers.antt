use Rattle.account_laws.proofs.LawFacts.{house_kept_once as law}
use Rattle.account_laws.proofs.laws.house_is_kept_once.Goals as goal

pub returns : goal.returns
returns c = law
