use Rattle.std.proofs.Common.{rules}
use Rattle.policy_doc.proofs.CallerFacts.{principal_some, principal_none}
use Rattle.policy_doc.proofs.callers.principal.Goals as goal

pub returns-in-Ok : goal.returns-in-Ok
returns-in-Ok c = principal_some _ _ c.in-Ok.ensures.ok

pub returns-in-Err-BadArn : goal.returns-in-Err-BadArn
returns-in-Err-BadArn c = principal_none _ (c.in-Err-BadArn.ensures.bad_arn (search rules))
