-- The conditions of statements, as they are kept.
use Rattle.std.specs.Prelude.{List, [], Option, Some, None}
use Rattle.std.specs.Global.{Box}
use Rattle.cond_ops.specs.declared.conditions.Condition.{Condition}

-- those that are kept, or none
abbrev pub conditions_of : Option (Box (List Condition)) → List Condition
conditions_of None = []
conditions_of (Some conditions) = conditions.value
