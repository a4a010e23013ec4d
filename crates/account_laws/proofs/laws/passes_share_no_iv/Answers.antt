use Rattle.account_laws.proofs.LawFacts.{no_iv_shared as law}
use Rattle.account_laws.proofs.laws.passes_share_no_iv.Goals as goal

pub returns : goal.returns
returns c = law
