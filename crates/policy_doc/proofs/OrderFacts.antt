-- First faults of objects are first in byte order.
use Rattle.std.proofs.Common.{◌≡◌, inl, inr, ℕ, Bool, true, false, List, [], ◌∷◌, Option, Some, None, Less, Equal, Greater, nat_cmp, String, Global, string_bytes, string_cmp, refl, sym, ap, ◌∙◌, subst, if◌then◌else◌}
use Rattle.std.specs.Prelude.{⊤}
use Rattle.std.specs.Cmp.Lexicographic.{slice_cmp}
use Rattle.std.specs.List.{AllByRecursion}
use Rattle.std.specs.List.Sorted.{IsStrictlySortedBy}
use Rattle.std.specs.Map.{keys_of}
use Rattle.std.specs.Option.{option_or}
use Rattle.std.specs.Ordering.{ordering_reverse}
use Rattle.std.proofs.lemmas.Cmp.{nat_list_cmp_total, tied_itself}
use Rattle.cond_ops.specs.declared.qualified.QualifiedOperator.{QualifiedOperator}
use Rattle.serde_json.specs.Data.{Data, Members, no_members, member}
use Rattle.serde_json.specs.View.{members_view}
use Rattle.serde_json.proofs.Views.{Entry}
use Rattle.policy_doc.specs.declared.faults.PolicyFault.{PolicyFault}
use Rattle.policy_doc.specs.declared.faults.PolicyFault.TheVariants as fault
use Rattle.policy_doc.specs.declared.forms.Form.TheVariants.{Value}
use Rattle.policy_doc.specs.ByteOrder.{IsBefore, IsBeforeAll, IsInByteOrder, AreMembersInByteOrder, IsFirstAmong, unknown_member_fault, FirstInByteOrder}
use Rattle.policy_doc.specs.Callers.{kind_form, kind_fault, kinds_fault}
use Rattle.policy_doc.specs.Conditions.{keys_fault, operator_fault, operators_fault}
use Rattle.policy_doc.specs.Names.{is_known, first_unknown, name_fault, unknown_fault}
use Rattle.policy_doc.specs.Operators.{named_operator}
use Rattle.policy_doc.specs.Paths.{member_path}
use Rattle.policy_doc.specs.Pointers.{HasMember}
use Rattle.policy_doc.specs.Texts.{texts_fault}

-- ---- the first of members

abbrev first_of : (List ℕ → Data → Option PolicyFault) → Members → Option PolicyFault
first_of fault_of no_members = None
first_of fault_of (member name d ms) = option_or (fault_of name d) (first_of fault_of ms)

not_before_itself : (name other : List ℕ) → other ≡ name → ¬ (IsBefore other name)
not_before_itself name other same before = let bad : Less ≡ Equal = sym before ∙ ap (λ n. slice_cmp nat_cmp n name) same ∙ tied_itself nat_list_cmp_total name in cc

not_before : (name other : List ℕ) → IsBefore name other → ¬ (IsBefore other name)
not_before name other after before = let bad : Less ≡ Greater = sym before ∙ nat_list_cmp_total.antisymm other name ∙ ap ordering_reverse after in cc

before_each : (name other : List ℕ) (e : Data) (ms : Members) → IsBeforeAll name ms → HasMember other e ms → IsBefore name other
before_each name other e no_members all has = absurd has
before_each name other e (member next d ms) all (inl (same, _)) = subst (λ n. IsBefore name n) (sym same) all.0
before_each name other e (member next d ms) all (inr has) = before_each name other e ms all.1 has

module _ (fault_of : List ℕ → Data → Option PolicyFault) where
  of_head : (name other : List ℕ) (d e : Data) (o : Option PolicyFault) → fault_of name d ≡ o → (other ≡ name) × (e ≡ d) → fault_of other e ≡ o
  of_head name other d e o is (same, equal) = ap (λ n. fault_of n e) same ∙ ap (fault_of name) equal ∙ is

  first_more : (name : List ℕ) (d : Data) (ms : Members) (o : Option PolicyFault) → fault_of name d ≡ None → IsFirstAmong ms fault_of o → IsFirstAmong (member name d ms) fault_of o
  first_more name d ms None none first = each
    where
      each : (other : List ℕ) (e : Data) → HasMember other e (member name d ms) → fault_of other e ≡ None
      each other e (inl same) = of_head name other d e None none same
      each other e (inr has) = first other e has
  first_more name d ms (Some fault) none (key, v, has, is, before) = (key, v, inr has, is, earlier)
    where
      earlier : (other : List ℕ) (e : Data) → HasMember other e (member name d ms) → IsBefore other key → fault_of other e ≡ None
      earlier other e (inl same) _ = of_head name other d e None none same
      earlier other e (inr has) order = before other e has order

  first_here : (name : List ℕ) (d : Data) (ms : Members) (fault : PolicyFault) → fault_of name d ≡ Some fault → IsBeforeAll name ms → IsFirstAmong (member name d ms) fault_of (Some fault)
  first_here name d ms fault is all = (name, d, inl (refl, refl), is, earlier)
    where
      earlier : (other : List ℕ) (e : Data) → HasMember other e (member name d ms) → IsBefore other name → fault_of other e ≡ None
      earlier other e (inl same) order = absurd (not_before_itself name other same.0 order)
      earlier other e (inr has) order = absurd (not_before name other (before_each name other e ms all has) order)

  is_first : (ms : Members) → AreMembersInByteOrder ms → IsFirstAmong ms fault_of (first_of fault_of ms)
  is_first no_members order = λ name d has. absurd has
  is_first (member name d ms) order = by_fault (fault_of name d) refl (is_first ms order.2)
    where
      by_fault : (o : Option PolicyFault) → fault_of name d ≡ o → IsFirstAmong ms fault_of (first_of fault_of ms) → IsFirstAmong (member name d ms) fault_of (option_or o (first_of fault_of ms))
      by_fault None is later = first_more name d ms (first_of fault_of ms) is later
      by_fault (Some fault) is later = first_here name d ms fault is order.0

  first_is : (ms : Members) (o : Option PolicyFault) → first_of fault_of ms ≡ o → AreMembersInByteOrder ms → IsFirstAmong ms fault_of o
  first_is ms o is order = subst (IsFirstAmong ms fault_of) is (is_first ms order)

-- ---- the objects of a document

unknown_first : (names : List (List ℕ)) (path : List ℕ) (ms : Members) → first_of (unknown_member_fault names path) ms ≡ unknown_fault names path ms
unknown_first names path no_members = refl
unknown_first names path (member name d ms) = by_test (is_known names name) (unknown_first names path ms)
  where
    by_test : (b : Bool) → first_of (unknown_member_fault names path) ms ≡ unknown_fault names path ms → option_or (if b then None else Some (fault.BadShape (member_path path name))) (first_of (unknown_member_fault names path) ms) ≡ name_fault path (if b then first_unknown names ms else Some name)
    by_test true later = later
    by_test false later = refl

kinds_first : (path : List ℕ) (ms : Members) → first_of (λ name d. kind_fault (kind_form name) (member_path path name) d) ms ≡ kinds_fault path ms
kinds_first path no_members = refl
kinds_first path (member name d ms) = ap (option_or (kind_fault (kind_form name) (member_path path name) d)) (kinds_first path ms)

operators_first : (path : List ℕ) (ms : Members) → first_of (λ name d. operator_fault (named_operator name) (member_path path name) d) ms ≡ operators_fault path ms
operators_first path no_members = refl
operators_first path (member name d ms) = ap (option_or (operator_fault (named_operator name) (member_path path name) d)) (operators_first path ms)

keys_first : (operator : QualifiedOperator) (path : List ℕ) (ms : Members) → first_of (λ key d. texts_fault (Value operator.operator) (member_path path key) d) ms ≡ keys_fault operator path ms
keys_first operator path no_members = refl
keys_first operator path (member key d ms) = ap (option_or (texts_fault (Value operator.operator) (member_path path key) d)) (keys_first operator path ms)

pub first_in_byte_order : FirstInByteOrder
first_in_byte_order path ms order = (
  λ names. first_is (unknown_member_fault names path) ms _ (unknown_first names path ms) order,
  first_is (λ name d. kind_fault (kind_form name) (member_path path name) d) ms _ (kinds_first path ms) order,
  first_is (λ name d. operator_fault (named_operator name) (member_path path name) d) ms _ (operators_first path ms) order,
  λ operator. first_is (λ key d. texts_fault (Value operator.operator) (member_path path key) d) ms _ (keys_first operator path ms) order,
)

-- ---- the order of a map

abbrev pub AreEachInByteOrder : Members → Type 0
AreEachInByteOrder no_members = ⊤
AreEachInByteOrder (member name d ms) = IsInByteOrder d × AreEachInByteOrder ms

before_entries : (key : String Global) (es : List Entry) → AllByRecursion (λ other. string_cmp key other ≡ Less) (keys_of es) → IsBeforeAll (string_bytes key) (members_view es)
before_entries key [] all = tt
before_entries key (e ∷ es) all = (all.0, before_entries key es all.1)

pub map_in_order : (es : List Entry) → IsStrictlySortedBy string_cmp (keys_of es) → AreEachInByteOrder (members_view es) → AreMembersInByteOrder (members_view es)
unfolding IsStrictlySortedBy
map_in_order [] order each = tt
map_in_order (e ∷ es) order each = (before_entries e.0 es order.0, each.0, map_in_order es order.1 each.1)
