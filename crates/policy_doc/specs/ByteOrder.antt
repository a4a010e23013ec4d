-- The byte order of an object's members, and which of them a first fault is at.
use Rattle.std.specs.Prelude.{◌≡◌, ℕ, List, Option, Some, None, ⊤, if◌then◌else◌}
use Rattle.std.specs.declared.cmp.Ordering.TheVariants.{Less}
use Rattle.std.specs.Ordering.{nat_cmp}
use Rattle.std.specs.Cmp.Lexicographic.{slice_cmp}
use Rattle.cond_ops.specs.declared.qualified.QualifiedOperator.{QualifiedOperator}
use Rattle.serde_json.specs.Data.{Data, null, boolean, number, string, array, object, Items, no_items, item, Members, no_members, member}
use Rattle.policy_doc.specs.declared.faults.PolicyFault.{PolicyFault}
use Rattle.policy_doc.specs.declared.faults.PolicyFault.TheVariants as fault
use Rattle.policy_doc.specs.declared.forms.Form.TheVariants.{Value}
use Rattle.policy_doc.specs.Callers.{kind_form, kind_fault, kinds_fault}
use Rattle.policy_doc.specs.Conditions.{keys_fault, operator_fault, operators_fault}
use Rattle.policy_doc.specs.Names.{is_known, unknown_fault}
use Rattle.policy_doc.specs.Operators.{named_operator}
use Rattle.policy_doc.specs.Paths.{member_path}
use Rattle.policy_doc.specs.Pointers.{HasMember}
use Rattle.policy_doc.specs.Texts.{texts_fault}

-- a name is before another: the first bytes that differ decide, and else the lengths do
abbrev pub IsBefore : List ℕ → List ℕ → Type 0
IsBefore name other = slice_cmp nat_cmp name other ≡ Less

abbrev pub IsBeforeAll : List ℕ → Members → Type 0
IsBeforeAll name no_members = ⊤
IsBeforeAll name (member other d ms) = IsBefore name other × IsBeforeAll name ms

-- the members of each object stand in byte order of their names, so each name once
abbrev mutual
  pub IsInByteOrder : Data → Type 0
  IsInByteOrder null = ⊤
  IsInByteOrder (boolean b) = ⊤
  IsInByteOrder (number n) = ⊤
  IsInByteOrder (string s) = ⊤
  IsInByteOrder (array ds) = AreItemsInByteOrder ds
  IsInByteOrder (object ms) = AreMembersInByteOrder ms

  pub AreItemsInByteOrder : Items → Type 0
  AreItemsInByteOrder no_items = ⊤
  AreItemsInByteOrder (item d ds) = IsInByteOrder d × AreItemsInByteOrder ds

  pub AreMembersInByteOrder : Members → Type 0
  AreMembersInByteOrder no_members = ⊤
  AreMembersInByteOrder (member name d ms) = IsBeforeAll name ms × IsInByteOrder d × AreMembersInByteOrder ms

-- the first fault of an object whose members have these faults: that of a member, where no member before it in byte
-- order has one, or none where no member has one
abbrev pub IsFirstAmong : Members → (List ℕ → Data → Option PolicyFault) → Option PolicyFault → Type 0
IsFirstAmong ms fault_of None = (name : List ℕ) (d : Data) → HasMember name d ms → fault_of name d ≡ None
IsFirstAmong ms fault_of (Some first) =
    (name : List ℕ) × (d : Data) × HasMember name d ms × (fault_of name d ≡ Some first)
    × ((other : List ℕ) (e : Data) → HasMember other e ms → IsBefore other name → fault_of other e ≡ None)

-- the fault of a member of another name than these
abbrev pub unknown_member_fault : List (List ℕ) → List ℕ → List ℕ → Data → Option PolicyFault
unknown_member_fault names path name d = if is_known names name then None else Some (fault.BadShape (member_path path name))

-- the objects whose members are judged one after the other: a document or a statement, for members of unknown
-- names; Principal; Condition; and what stands under an operator
abbrev pub FirstInByteOrder : Type 0
FirstInByteOrder =
    (path : List ℕ) (ms : Members) → AreMembersInByteOrder ms
    → ((names : List (List ℕ)) → IsFirstAmong ms (unknown_member_fault names path) (unknown_fault names path ms))
    × IsFirstAmong ms (λ name d. kind_fault (kind_form name) (member_path path name) d) (kinds_fault path ms)
    × IsFirstAmong ms (λ name d. operator_fault (named_operator name) (member_path path name) d) (operators_fault path ms)
    × ((operator : QualifiedOperator) → IsFirstAmong ms (λ key d. texts_fault (Value operator.operator) (member_path path key) d) (keys_fault operator path ms))
