use Rattle.crypto_ops.proofs.OpeningFacts.{opened_size}
use Rattle.account_steps.proofs.sources.Sealed.open.Goals as goal

pub returns-in-Ok-clause-some : goal.returns-in-Ok-clause-some
returns-in-Ok-clause-some c = (opened_size c.facts.result.now.root c.self.inside.bytes.now c.args.context.now c.in-Ok.text c.in-Ok.ensures.opened).0

pub returns-in-Ok-clause-short : goal.returns-in-Ok-clause-short
returns-in-Ok-clause-short c = (opened_size c.facts.result.now.root c.self.inside.bytes.now c.args.context.now c.in-Ok.text c.in-Ok.ensures.opened).1
