use Rattle.account_laws.proofs.LawFacts.{no_iv_again}
use Rattle.account_laws.proofs.laws.one_pass_repeats_no_iv.Goals as goal

pub returns : goal.returns
returns c = no_iv_again
