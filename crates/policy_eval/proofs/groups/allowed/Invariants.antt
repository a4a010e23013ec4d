use Rattle.std.proofs.Common.{take}
use Rattle.policy_eval.proofs.AllowedFacts.{SoFar}
use Rattle.policy_eval.proofs.groups.allowed.Given as goal

-- of the statements so far none allows the caller, and it is known whether one allows the account
abbrev pub invariant-loop-statement : goal.invariant-loop-statement
invariant-loop-statement l = SoFar l.account (take l.statement-index l.statements) l.facts
