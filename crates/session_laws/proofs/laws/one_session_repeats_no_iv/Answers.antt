use Rattle.session_laws.proofs.SessionCalls.{no_iv_again}
use Rattle.session_laws.proofs.laws.one_session_repeats_no_iv.Goals as goal

pub returns : goal.returns
returns c = no_iv_again
