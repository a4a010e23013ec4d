-- Conditions whose texts stand in one piece of memory.
use Rattle.std.specs.Prelude.{ℕ, List, [], ◌∷◌, length, take, drop}
use Rattle.cond_ops.specs.declared.conditions.Condition.{Condition}
use Rattle.cond_ops.specs.declared.heads.ConditionHead.{ConditionHead}

-- the texts of a condition: its key, and then its values
abbrev pub texts_of : Condition → List (List ℕ)
texts_of condition = condition.key ∷ condition.values

-- what is kept of it beside them
abbrev pub head_of : Condition → ConditionHead
head_of condition = record {
  operator = condition.operator;
  qualifier = condition.qualifier;
  if_exists = condition.if_exists;
  count = length condition.values;
}

-- the condition of a head, a key and values
abbrev pub condition_at : ConditionHead → List ℕ → List (List ℕ) → Condition
condition_at head key values = record {
  operator = head.operator;
  qualifier = head.qualifier;
  if_exists = head.if_exists;
  key = key;
  values = values;
}

-- the conditions of these heads, with their texts one behind another
abbrev pub conditions_of : List ConditionHead → List (List ℕ) → List Condition
conditions_of [] texts = []
conditions_of (head ∷ heads) [] = []
conditions_of (head ∷ heads) (key ∷ texts) = condition_at head key (take head.count texts) ∷ conditions_of heads (drop head.count texts)
