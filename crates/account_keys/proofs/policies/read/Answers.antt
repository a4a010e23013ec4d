use Rattle.account_keys.proofs.Refusing.{told_at}
use Rattle.account_keys.proofs.policies.read.Goals as goal

pub returns-in-Err-clause-fault : goal.returns-in-Err-clause-fault
returns-in-Err-clause-fault c = told_at c.in-Err.fault c.stop_at.result _ c.stop_at.ensures c.in-Err.ensures.fault
