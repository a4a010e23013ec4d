use Rattle.std.proofs.Common.{List, ◌++◌, take}
use Rattle.policy_doc.specs.declared.policies.Statement.{Statement}
use Rattle.access_explain.specs.Tests.{IsRunOf}
use Rattle.access_explain.proofs.runs.Run.add.Given as goal

abbrev pub invariant-loop-statement : goal.invariant-loop-statement
invariant-loop-statement l = (before : List Statement) → IsRunOf l.kind l.facts before l.initial.self-inside.items.items → IsRunOf l.kind l.facts (before ++ take l.statement-index l.statements) l.self-inside.items.items
