use Rattle.std.proofs.Common.{◌≡◌, take}
use Rattle.policy_eval.proofs.compiled.Compiled.new.Given as goal

abbrev pub invariant-loop-statement : goal.invariant-loop-statement
invariant-loop-statement l = l.group ≡ take l.statement-index l.statements
