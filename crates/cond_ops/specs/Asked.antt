-- Conditions as they are asked.
use Rattle.std.specs.Prelude.{ℕ, List}
use Rattle.cond_ops.specs.declared.conditions.Condition.{Condition}
use Rattle.cond_ops.specs.declared.asked.PolicyValues.{PolicyValues}
use Rattle.cond_ops.specs.declared.asked.PolicyValues.TheVariants.{Listed, Packed, Read}
use Rattle.cond_ops.specs.declared.asked.Asked.{Asked}

abbrev pub values_of : PolicyValues → List (List ℕ)
values_of (Listed texts) = texts.now
values_of (Packed texts) = texts
values_of (Read texts) = texts

-- the condition that is asked
abbrev pub condition_of : Asked → Condition
condition_of asked = record {
  operator = asked.operator;
  qualifier = asked.qualifier;
  if_exists = asked.if_exists;
  key = asked.key.now;
  values = values_of asked.values;
}
