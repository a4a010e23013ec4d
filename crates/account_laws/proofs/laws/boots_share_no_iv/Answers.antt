use Rattle.account_laws.proofs.LawFacts.{no_iv_over_boots as law}
use Rattle.account_laws.proofs.laws.boots_share_no_iv.Goals as goal

pub returns : goal.returns
returns c = law
