use Rattle.std.proofs.Common.{drop}
use Rattle.std.specs.Prelude.{◌↔◌, All}
use Rattle.cond_ops.specs.Compiled.{conditions_of}
use Rattle.cond_ops.specs.Holds.{Holds}
use Rattle.cond_ops.specs.declared.conditions.Condition.{Condition}
use Rattle.cond_ops.proofs.compiled.CompiledConditions.all_hold.Given as goal

-- all hold where those hold that are left
abbrev pub invariant-loop-head : goal.invariant-loop-head
invariant-loop-head l =
    All (λ (condition : Condition). Holds condition l.fn.facts) (conditions_of (drop l.head-index l.head-items) l.texts)
    ↔ All (λ (condition : Condition). Holds condition l.fn.facts) l.fn.self
