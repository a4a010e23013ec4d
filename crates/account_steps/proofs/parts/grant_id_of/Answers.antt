use Rattle.account_steps.proofs.TokenFacts.{grant_read}
use Rattle.account_steps.proofs.parts.grant_id_of.Goals as goal

pub returns : goal.returns
returns c = grant_read c.args.text.now c.read_grant_id.result c.read_grant_id.ensures
