use Rattle.account_laws.proofs.DeadTokens.{dead_tokens_are_refused}
use Rattle.account_laws.proofs.laws.dead_tokens_are_refused.Goals as goal

pub returns : goal.returns
returns c = dead_tokens_are_refused
