use Rattle.std.proofs.Common.{◌≡◌, take}
use Rattle.policy_doc.proofs.policies.StatementList.copy.Given as goal

abbrev pub invariant-loop-statement : goal.invariant-loop-statement
invariant-loop-statement l = l.items.items ≡ take l.statement-index l.statement-items
