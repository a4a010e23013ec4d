-- A statement's Condition (IAM User Guide, "IAM JSON policy elements: Condition").
use Rattle.std.specs.Prelude.{ℕ, List, [], ◌∷◌, ◌++◌, Option, Some, None, Result, Ok, Err}
use Rattle.std.specs.Option.{option_or}
use Rattle.cond_ops.specs.declared.conditions.Condition.{Condition}
use Rattle.cond_ops.specs.declared.qualified.QualifiedOperator.{QualifiedOperator}
use Rattle.serde_json.specs.Data.{Data, null, boolean, number, string, array, object, Members, no_members, member}
use Rattle.policy_doc.specs.declared.faults.Departure.{Departure}
use Rattle.policy_doc.specs.declared.faults.PolicyFault.{PolicyFault}
use Rattle.policy_doc.specs.declared.faults.PolicyFault.TheVariants as fault
use Rattle.policy_doc.specs.declared.forms.Form.TheVariants.{Value}
use Rattle.policy_doc.specs.Paths.{fault_at, member_path}
use Rattle.policy_doc.specs.Texts.{texts_fault, texts_of}
use Rattle.policy_doc.specs.Operators.{named_operator}

-- the members under an operator: condition keys, each with its values
abbrev pub keys_fault : QualifiedOperator → List ℕ → Members → Option PolicyFault
keys_fault operator path no_members = None
keys_fault operator path (member key d ms) = option_or (texts_fault (Value operator.operator) (member_path path key) d) (keys_fault operator path ms)

abbrev pub condition_of : QualifiedOperator → List ℕ → Data → Condition
condition_of operator key d = record { operator = operator.operator; qualifier = operator.qualifier; if_exists = operator.if_exists; key = key; values = texts_of (Value operator.operator) d }

abbrev pub keys_of : QualifiedOperator → Members → List Condition
keys_of operator no_members = []
keys_of operator (member key d ms) = condition_of operator key d ∷ keys_of operator ms

-- what stands under an operator is an object
abbrev pub under_fault : QualifiedOperator → List ℕ → Data → Option PolicyFault
under_fault operator path null = Some (fault.BadShape path)
under_fault operator path (boolean b) = Some (fault.BadShape path)
under_fault operator path (number n) = Some (fault.BadShape path)
under_fault operator path (string s) = Some (fault.BadShape path)
under_fault operator path (array ds) = Some (fault.BadShape path)
under_fault operator path (object ms) = keys_fault operator path ms

abbrev pub under_of : QualifiedOperator → Data → List Condition
under_of operator null = []
under_of operator (boolean b) = []
under_of operator (number n) = []
under_of operator (string s) = []
under_of operator (array ds) = []
under_of operator (object ms) = keys_of operator ms

-- a member of Condition: an operator with what stands under it
abbrev pub operator_fault : Result QualifiedOperator Departure → List ℕ → Data → Option PolicyFault
operator_fault (Err departure) path d = Some (fault_at departure path)
operator_fault (Ok operator) path d = under_fault operator path d

abbrev pub operator_conditions : Result QualifiedOperator Departure → Data → List Condition
operator_conditions (Err departure) d = []
operator_conditions (Ok operator) d = under_of operator d

abbrev pub operators_fault : List ℕ → Members → Option PolicyFault
operators_fault path no_members = None
operators_fault path (member name d ms) = option_or (operator_fault (named_operator name) (member_path path name) d) (operators_fault path ms)

abbrev pub operators_of : Members → List Condition
operators_of no_members = []
operators_of (member name d ms) = operator_conditions (named_operator name) d ++ operators_of ms

-- Condition may be absent, and is an object
abbrev pub condition_fault : List ℕ → Option Data → Option PolicyFault
condition_fault path None = None
condition_fault path (Some null) = Some (fault.BadShape path)
condition_fault path (Some (boolean b)) = Some (fault.BadShape path)
condition_fault path (Some (number n)) = Some (fault.BadShape path)
condition_fault path (Some (string s)) = Some (fault.BadShape path)
condition_fault path (Some (array ds)) = Some (fault.BadShape path)
condition_fault path (Some (object ms)) = operators_fault path ms

abbrev pub conditions_of : Option Data → List Condition
conditions_of None = []
conditions_of (Some null) = []
conditions_of (Some (boolean b)) = []
conditions_of (Some (number n)) = []
conditions_of (Some (string s)) = []
conditions_of (Some (array ds)) = []
conditions_of (Some (object ms)) = operators_of ms
