-- The first fault of each part of a document, against the places that it judges.
use Rattle.std.proofs.Common.{◌≡◌, ◌≢◌, inl, inr, ℕ, ◌+◌, Bool, true, false, ◌||◌, List, [], ◌∷◌, ◌++◌, Option, Some, None, if◌then◌else◌, refl, sym, ap, ◌∙◌, subst, append_assoc, append-nil}
use Rattle.std.specs.Prelude.{codes, IsTrue, MatchOption, ⊤}
use Rattle.std.specs.Bool.{Decides}
use Rattle.std.specs.Option.{option_or}
use Rattle.std.specs.Str.{bytes_eq}
use Rattle.std.proofs.lemmas.Bool.{false≢true}
use Rattle.std.proofs.lemmas.List.Elements.{All-nil}
use Rattle.std.proofs.lemmas.Slice.Eq.{bytes_eq-Decides}
use Rattle.cond_ops.specs.declared.qualified.QualifiedOperator.{QualifiedOperator}
use Rattle.cond_ops.specs.Qualified.{IsOperatorText}
use Rattle.serde_json.specs.Data.{Data, null, boolean, number, string, array, object, Items, no_items, item, Members, no_members, member}
use Rattle.serde_json.specs.Find.{get_member}
use Rattle.policy_doc.specs.declared.faults.PolicyFault.TheVariants as fault
use Rattle.policy_doc.specs.declared.forms.Form.{Form}
use Rattle.policy_doc.specs.declared.forms.Form.TheVariants.{Action, Resource, Value}
use Rattle.policy_doc.specs.declared.policies.PolicyKind.{PolicyKind}
use Rattle.policy_doc.specs.declared.policies.PolicyKind.TheVariants.{Key, Identity}
use Rattle.policy_doc.specs.Callers.{kind_form, kind_fault, kinds_fault, required_fault, principal_fault}
use Rattle.policy_doc.specs.Conditions.{keys_fault, under_fault, operator_fault, operators_fault, condition_fault}
use Rattle.policy_doc.specs.Documents.{is_version, version_fault, statement_part_fault, document_names, first_fault}
use Rattle.policy_doc.specs.Names.{first_unknown, has_items, has_members, is_known, name_fault, unknown_fault}
use Rattle.policy_doc.specs.Operators.{is_unserved, named_operator, operator_of, operator_or}
use Rattle.policy_doc.specs.Paths.{item_path, member_path}
use Rattle.policy_doc.specs.Places.{AnObject, ObjectOrNothing, Nothing, NotServed, TextOrNothing, VersionOrNothing, AnEffect, StatementOrList, StarOrObject, OneOfTwo, ServedOperator, OperatorName, IsObject, Fits, Place, IsRight, place_at, member_place, in_object, each_member, each_item, other_place, texts_places, given_places, pair_places, kind_places, principal_places, key_places, operator_places, condition_places, statement_members, statement_places, statements_places, document_members, places_of, FirstFaultIsAtTheFirstPlace}
use Rattle.policy_doc.specs.Statements.{effect_fault, effect_of, not_principal_fault, optional_fault, pair_fault, statement_fault, statement_names}
use Rattle.policy_doc.specs.Statements as statements
use Rattle.policy_doc.specs.Texts.{texts_fault}
use Rattle.policy_doc.proofs.GrammarFacts.{effect_tells}
use Rattle.policy_doc.proofs.JudgedFacts.{Judged, both, one, only_if, passes, stops, tested, texts_judged, judged_fault, judged_none}
use Rattle.policy_doc.proofs.OperatorFacts.{operator_reads}

-- ---- what stands at a place that is right, by its kind of value

abbrev ObjectAlone : Option Data → Type 0
ObjectAlone None = ⊥
ObjectAlone (Some null) = ⊥
ObjectAlone (Some (boolean b)) = ⊥
ObjectAlone (Some (number n)) = ⊥
ObjectAlone (Some (string s)) = ⊥
ObjectAlone (Some (array ds)) = ⊥
ObjectAlone (Some (object ms)) = ⊤

object_alone : (given : Option Data) → IsObject given → ObjectAlone given
object_alone given h = subst ObjectAlone (sym h.1) tt

abbrev ObjectIfAny : Option Data → Type 0
ObjectIfAny None = ⊤
ObjectIfAny (Some d) = ObjectAlone (Some d)

object_if_any : (given : Option Data) → Fits ObjectOrNothing given → ObjectIfAny given
object_if_any given (inl e) = subst ObjectIfAny (sym e) tt
object_if_any given (inr h) = subst ObjectIfAny (sym h.1) tt

abbrev StatementOrItems : Option Data → Type 0
StatementOrItems None = ⊥
StatementOrItems (Some null) = ⊥
StatementOrItems (Some (boolean b)) = ⊥
StatementOrItems (Some (number n)) = ⊥
StatementOrItems (Some (string s)) = ⊥
StatementOrItems (Some (array ds)) = IsTrue (has_items ds)
StatementOrItems (Some (object ms)) = ⊤

statement_or_items : (given : Option Data) → Fits StatementOrList given → StatementOrItems given
statement_or_items given (inl h) = subst StatementOrItems (sym h.1) tt
statement_or_items given (inr h) = subst StatementOrItems (sym h.1) h.2

abbrev StarOrMembers : Option Data → Type 0
StarOrMembers None = ⊥
StarOrMembers (Some null) = ⊥
StarOrMembers (Some (boolean b)) = ⊥
StarOrMembers (Some (number n)) = ⊥
StarOrMembers (Some (string s)) = s ≡ codes "*"
StarOrMembers (Some (array ds)) = ⊥
StarOrMembers (Some (object ms)) = IsTrue (has_members ms)

star_or_members : (given : Option Data) → Fits StarOrObject given → StarOrMembers given
star_or_members given (inl e) = subst StarOrMembers (sym e) refl
star_or_members given (inr h) = subst StarOrMembers (sym h.1) h.2

something : {A : Type 0} (x : A) → Some x ≢ None
something x e = cc

-- ---- members

others_judged : (names : List (List ℕ)) (path : List ℕ) (ms : Members) → Judged (each_member (other_place names) path ms) (unknown_fault names path ms)
others_judged names path no_members = All-nil IsRight
others_judged names path (member name d ms) = by_test (is_known names name) (others_judged names path ms)
  where
    by_test : (b : Bool) → Judged (each_member (other_place names) path ms) (unknown_fault names path ms)
        → Judged ((if b then [] else place_at (member_path path name) (Some d) Nothing ∷ []) ++ each_member (other_place names) path ms) (name_fault path (if b then first_unknown names ms else Some name))
    by_test true more = more
    by_test false more = stops (place_at (member_path path name) (Some d) Nothing) (each_member (other_place names) path ms) (something d)

optional_judged : (path : List ℕ) (given : Option Data) → Judged (place_at path given TextOrNothing ∷ []) (optional_fault path given)
optional_judged path None = one (place_at path None TextOrNothing) tt
optional_judged path (Some null) = stops (place_at path (Some null) TextOrNothing) [] (λ h. h)
optional_judged path (Some (boolean b)) = stops (place_at path (Some (boolean b)) TextOrNothing) [] (λ h. h)
optional_judged path (Some (number n)) = stops (place_at path (Some (number n)) TextOrNothing) [] (λ h. h)
optional_judged path (Some (string s)) = one (place_at path (Some (string s)) TextOrNothing) tt
optional_judged path (Some (array ds)) = stops (place_at path (Some (array ds)) TextOrNothing) [] (λ h. h)
optional_judged path (Some (object ms)) = stops (place_at path (Some (object ms)) TextOrNothing) [] (λ h. h)

version_judged : (path : List ℕ) (given : Option Data) → Judged (place_at path given VersionOrNothing ∷ []) (version_fault path given)
version_judged path None = one (place_at path None VersionOrNothing) tt
version_judged path (Some null) = stops (place_at path (Some null) VersionOrNothing) [] (λ h. h)
version_judged path (Some (boolean b)) = stops (place_at path (Some (boolean b)) VersionOrNothing) [] (λ h. h)
version_judged path (Some (number n)) = stops (place_at path (Some (number n)) VersionOrNothing) [] (λ h. h)
version_judged path (Some (string s)) = by_test (is_version s) refl
  where
    by_test : (b : Bool) → is_version s ≡ b → Judged (place_at path (Some (string s)) VersionOrNothing ∷ []) (if b then None else Some (fault.BadShape path))
    by_test true is = one (place_at path (Some (string s)) VersionOrNothing) is
    by_test false is = stops (place_at path (Some (string s)) VersionOrNothing) [] (λ h. false≢true (sym is ∙ h))
version_judged path (Some (array ds)) = stops (place_at path (Some (array ds)) VersionOrNothing) [] (λ h. h)
version_judged path (Some (object ms)) = stops (place_at path (Some (object ms)) VersionOrNothing) [] (λ h. h)

effect_judged : (path : List ℕ) (given : Option Data) → Judged (place_at path given AnEffect ∷ []) (effect_fault path given)
effect_judged path None = stops (place_at path None AnEffect) [] (λ h. h.1)
effect_judged path (Some null) = stops (place_at path (Some null) AnEffect) [] (λ h. h.1)
effect_judged path (Some (boolean b)) = stops (place_at path (Some (boolean b)) AnEffect) [] (λ h. h.1)
effect_judged path (Some (number n)) = stops (place_at path (Some (number n)) AnEffect) [] (λ h. h.1)
effect_judged path (Some (string s)) =
    let tells = effect_tells path (Some (string s)) in
    tested (place_at path (Some (string s)) AnEffect) (effect_fault path (Some (string s))) (λ e. (effect_of (Some (string s)), tells.0 e)) (λ h. (tells.1 h.0 h.1).0)
    (only_if (fault.BadShape path) (bytes_eq s (codes "Allow") || bytes_eq s (codes "Deny")))
effect_judged path (Some (array ds)) = stops (place_at path (Some (array ds)) AnEffect) [] (λ h. h.1)
effect_judged path (Some (object ms)) = stops (place_at path (Some (object ms)) AnEffect) [] (λ h. h.1)

-- ---- Principal

kind_judged : (form : Option Form) (path : List ℕ) (d : Data) → Judged (kind_places form path d) (kind_fault form path d)
kind_judged None path d = stops (place_at path (Some d) Nothing) [] (something d)
kind_judged (Some form) path d = texts_judged form path d

abbrev kinds_places : List ℕ → Members → List Place
kinds_places path ms = each_member (λ name. kind_places (kind_form name)) path ms

kinds_judged : (path : List ℕ) (ms : Members) → Judged (kinds_places path ms) (kinds_fault path ms)
kinds_judged path no_members = All-nil IsRight
kinds_judged path (member name d ms) =
    both (kind_places (kind_form name) (member_path path name) d) (kinds_places path ms) (kind_fault (kind_form name) (member_path path name) d) (kinds_fault path ms)
    (kind_judged (kind_form name) (member_path path name) d) (kinds_judged path ms)

required_judged : (path : List ℕ) (given : Option Data) → Judged (principal_places Key path given) (required_fault path given)
required_judged path None = stops (place_at path None StarOrObject) [] (star_or_members None)
required_judged path (Some null) = stops (place_at path (Some null) StarOrObject) [] (star_or_members (Some null))
required_judged path (Some (boolean b)) = stops (place_at path (Some (boolean b)) StarOrObject) [] (star_or_members (Some (boolean b)))
required_judged path (Some (number n)) = stops (place_at path (Some (number n)) StarOrObject) [] (star_or_members (Some (number n)))
required_judged path (Some (string s)) = by_test (bytes_eq s (codes "*")) (bytes_eq-Decides s (codes "*"))
  where
    by_test : (b : Bool) → Decides b (s ≡ codes "*") → Judged (place_at path (Some (string s)) StarOrObject ∷ []) (if b then None else Some (fault.BadShape path))
    by_test true star = one (place_at path (Some (string s)) StarOrObject) (inl (ap (λ t. Some (string t)) (star.0 refl)))
    by_test false star = stops (place_at path (Some (string s)) StarOrObject) [] (λ h. false≢true (star.1 (star_or_members (Some (string s)) h)))
required_judged path (Some (array ds)) = stops (place_at path (Some (array ds)) StarOrObject) [] (star_or_members (Some (array ds)))
required_judged path (Some (object ms)) = by_test (has_members ms) refl
  where
    by_test : (b : Bool) → has_members ms ≡ b → Judged (place_at path (Some (object ms)) StarOrObject ∷ kinds_places path ms) (if b then kinds_fault path ms else Some (fault.BadShape path))
    by_test true has = passes (place_at path (Some (object ms)) StarOrObject) (kinds_places path ms) (kinds_fault path ms) (inr (ms, refl, has)) (kinds_judged path ms)
    by_test false has = stops (place_at path (Some (object ms)) StarOrObject) (kinds_places path ms) (λ h. false≢true (sym has ∙ star_or_members (Some (object ms)) h))

principal_judged : (kind : PolicyKind) (path : List ℕ) (given : Option Data) → Judged (principal_places kind path given) (principal_fault kind path given)
principal_judged Key path given = required_judged path given
principal_judged Identity path None = one (place_at path None Nothing) refl
principal_judged Identity path (Some d) = stops (place_at path (Some d) Nothing) [] (something d)

-- ---- pairs

-- `pair_places`, of what stands at the two
abbrev pair_given : Form → List ℕ → Option Data → List ℕ → Option Data → List Place
pair_given form path given not_path not_given = place_at path given (OneOfTwo not_given) ∷ (given_places form path given ++ given_places form not_path not_given)

neither : (other : Option Data) → other ≡ None → ¬ (Fits (OneOfTwo other) None)
neither other none (inl h) = h.0 refl
neither other none (inr h) = h.1 none

not_both : (d e : Data) → ¬ (Fits (OneOfTwo (Some e)) (Some d))
not_both d e (inl h) = something e h.1
not_both d e (inr h) = something d h.0

pair_judged : (form : Form) (path : List ℕ) (given : Option Data) (not_path : List ℕ) (not_given : Option Data) → Judged (pair_given form path given not_path not_given) (pair_fault form path given not_path not_given)
pair_judged form path None not_path None = stops (place_at path None (OneOfTwo None)) [] (neither None refl)
pair_judged form path (Some d) not_path None =
    passes (place_at path (Some d) (OneOfTwo None)) (texts_places form path d ++ []) (texts_fault form path d) (inl (something d, refl))
    (subst (λ places. Judged places (texts_fault form path d)) (sym (append-nil (texts_places form path d))) (texts_judged form path d))
pair_judged form path None not_path (Some e) =
    passes (place_at path None (OneOfTwo (Some e))) (texts_places form not_path e) (texts_fault form not_path e) (inr (refl, something e)) (texts_judged form not_path e)
pair_judged form path (Some d) not_path (Some e) = stops (place_at path (Some d) (OneOfTwo (Some e))) (texts_places form path d ++ texts_places form not_path e) (not_both d e)

-- ---- Condition

keys_judged : (operator : QualifiedOperator) (path : List ℕ) (ms : Members) → Judged (key_places (Some operator) path ms) (keys_fault operator path ms)
keys_judged operator path no_members = All-nil IsRight
keys_judged operator path (member key d ms) =
    both (texts_places (Value operator.operator) (member_path path key) d) (key_places (Some operator) path ms) (texts_fault (Value operator.operator) (member_path path key) d) (keys_fault operator path ms)
    (texts_judged (Value operator.operator) (member_path path key) d) (keys_judged operator path ms)

under_judged : (operator : QualifiedOperator) (path : List ℕ) (d : Data) → Judged (place_at path (Some d) AnObject ∷ in_object (key_places (Some operator) path) (Some d)) (under_fault operator path d)
under_judged operator path null = stops (place_at path (Some null) AnObject) [] (object_alone (Some null))
under_judged operator path (boolean b) = stops (place_at path (Some (boolean b)) AnObject) [] (object_alone (Some (boolean b)))
under_judged operator path (number n) = stops (place_at path (Some (number n)) AnObject) [] (object_alone (Some (number n)))
under_judged operator path (string s) = stops (place_at path (Some (string s)) AnObject) [] (object_alone (Some (string s)))
under_judged operator path (array ds) = stops (place_at path (Some (array ds)) AnObject) [] (object_alone (Some (array ds)))
under_judged operator path (object ms) = passes (place_at path (Some (object ms)) AnObject) (key_places (Some operator) path ms) (keys_fault operator path ms) (ms, refl) (keys_judged operator path ms)

operator_judged : (name path : List ℕ) (d : Data) → Judged (operator_places name path d) (operator_fault (named_operator name) path d)
unfolding named_operator
operator_judged name path d = by_parts (is_unserved name) refl (operator_of name) (operator_reads name)
  where
    served : Place
    served = place_at path (Some d) (ServedOperator name)

    named : Place
    named = place_at path (Some d) (OperatorName name)

    behind : Option QualifiedOperator → List Place
    behind o = place_at path (Some d) AnObject ∷ in_object (key_places o path) (Some d)

    by_parts : (b : Bool) → is_unserved name ≡ b → (o : Option QualifiedOperator) → MatchOption o ((x : QualifiedOperator) → ¬ (IsOperatorText name x)) (IsOperatorText name)
        → Judged (served ∷ named ∷ behind o) (operator_fault (operator_or b o) path d)
    by_parts true is o reads = stops served (named ∷ behind o) (λ h. false≢true (sym h ∙ is))
    by_parts false is None none = passes served (named ∷ behind None) (Some (fault.BadShape path)) is (stops named (behind None) (λ h. none h.0 h.1))
    by_parts false is (Some operator) reads =
        passes served (named ∷ behind (Some operator)) (under_fault operator path d) is (passes named (behind (Some operator)) (under_fault operator path d) (operator, reads) (under_judged operator path d))

operators_judged : (path : List ℕ) (ms : Members) → Judged (each_member operator_places path ms) (operators_fault path ms)
operators_judged path no_members = All-nil IsRight
operators_judged path (member name d ms) =
    both (operator_places name (member_path path name) d) (each_member operator_places path ms) (operator_fault (named_operator name) (member_path path name) d) (operators_fault path ms)
    (operator_judged name (member_path path name) d) (operators_judged path ms)

condition_judged : (path : List ℕ) (given : Option Data) → Judged (condition_places path given) (condition_fault path given)
condition_judged path None = one (place_at path None ObjectOrNothing) (inl refl)
condition_judged path (Some null) = stops (place_at path (Some null) ObjectOrNothing) [] (object_if_any (Some null))
condition_judged path (Some (boolean b)) = stops (place_at path (Some (boolean b)) ObjectOrNothing) [] (object_if_any (Some (boolean b)))
condition_judged path (Some (number n)) = stops (place_at path (Some (number n)) ObjectOrNothing) [] (object_if_any (Some (number n)))
condition_judged path (Some (string s)) = stops (place_at path (Some (string s)) ObjectOrNothing) [] (object_if_any (Some (string s)))
condition_judged path (Some (array ds)) = stops (place_at path (Some (array ds)) ObjectOrNothing) [] (object_if_any (Some (array ds)))
condition_judged path (Some (object ms)) = passes (place_at path (Some (object ms)) ObjectOrNothing) (each_member operator_places path ms) (operators_fault path ms) (inr (ms, refl)) (operators_judged path ms)

-- ---- statements

not_principal_judged : (path : List ℕ) (given : Option Data) → Judged (place_at path given NotServed ∷ []) (not_principal_fault path given)
not_principal_judged path None = one (place_at path None NotServed) refl
not_principal_judged path (Some d) = stops (place_at path (Some d) NotServed) [] (something d)

module _ (kind : PolicyKind) where
  members_judged : (path : List ℕ) (ms : Members) → Judged (statement_members kind path ms) (statement_fault kind path (object ms))
  members_judged path ms =
      let not_principal = member_place path (codes "NotPrincipal") ms NotServed ∷ [] in
      let others = each_member (other_place statement_names) path ms in
      let sid = member_place path (codes "Sid") ms TextOrNothing ∷ [] in
      let effect = member_place path (codes "Effect") ms AnEffect ∷ [] in
      let principal = principal_places kind (member_path path (codes "Principal")) (get_member (codes "Principal") ms) in
      let action = pair_places Action path (codes "Action") (codes "NotAction") ms in
      let resource = pair_places Resource path (codes "Resource") (codes "NotResource") ms in
      let condition = condition_places (member_path path (codes "Condition")) (get_member (codes "Condition") ms) in
      both (not_principal ++ others) (sid ++ (effect ++ (principal ++ (action ++ (resource ++ condition))))) _ _
      (both not_principal others _ _ (not_principal_judged (member_path path (codes "NotPrincipal")) (get_member (codes "NotPrincipal") ms)) (others_judged statement_names path ms))
      (both sid (effect ++ (principal ++ (action ++ (resource ++ condition)))) _ _ (optional_judged (member_path path (codes "Sid")) (get_member (codes "Sid") ms))
      (both effect (principal ++ (action ++ (resource ++ condition))) _ _ (effect_judged (member_path path (codes "Effect")) (get_member (codes "Effect") ms))
      (both principal (action ++ (resource ++ condition)) _ _ (principal_judged kind (member_path path (codes "Principal")) (get_member (codes "Principal") ms))
      (both action (resource ++ condition) _ _ (pair_judged Action (member_path path (codes "Action")) (get_member (codes "Action") ms) (member_path path (codes "NotAction")) (get_member (codes "NotAction") ms))
      (both resource condition _ _ (pair_judged Resource (member_path path (codes "Resource")) (get_member (codes "Resource") ms) (member_path path (codes "NotResource")) (get_member (codes "NotResource") ms))
      (condition_judged (member_path path (codes "Condition")) (get_member (codes "Condition") ms)))))))

  statement_judged : (path : List ℕ) (d : Data) → Judged (statement_places kind path d) (statement_fault kind path d)
  statement_judged path null = stops (place_at path (Some null) AnObject) [] (object_alone (Some null))
  statement_judged path (boolean b) = stops (place_at path (Some (boolean b)) AnObject) [] (object_alone (Some (boolean b)))
  statement_judged path (number n) = stops (place_at path (Some (number n)) AnObject) [] (object_alone (Some (number n)))
  statement_judged path (string s) = stops (place_at path (Some (string s)) AnObject) [] (object_alone (Some (string s)))
  statement_judged path (array ds) = stops (place_at path (Some (array ds)) AnObject) [] (object_alone (Some (array ds)))
  statement_judged path (object ms) = passes (place_at path (Some (object ms)) AnObject) (statement_members kind path ms) (statement_fault kind path (object ms)) (ms, refl) (members_judged path ms)

  statements_judged : (path : List ℕ) (index : ℕ) (ds : Items) → Judged (each_item (statement_places kind) path index ds) (statements.items_fault kind path index ds)
  statements_judged path index no_items = All-nil IsRight
  statements_judged path index (item d ds) =
      both (statement_places kind (item_path path index) d) (each_item (statement_places kind) path (index + 1) ds) (statement_fault kind (item_path path index) d) (statements.items_fault kind path (index + 1) ds)
      (statement_judged (item_path path index) d) (statements_judged path (index + 1) ds)

  part_judged : (path : List ℕ) (given : Option Data) → Judged (statements_places kind path given) (statement_part_fault kind path given)
  part_judged path None = stops (place_at path None StatementOrList) [] (statement_or_items None)
  part_judged path (Some null) = stops (place_at path (Some null) StatementOrList) [] (statement_or_items (Some null))
  part_judged path (Some (boolean b)) = stops (place_at path (Some (boolean b)) StatementOrList) [] (statement_or_items (Some (boolean b)))
  part_judged path (Some (number n)) = stops (place_at path (Some (number n)) StatementOrList) [] (statement_or_items (Some (number n)))
  part_judged path (Some (string s)) = stops (place_at path (Some (string s)) StatementOrList) [] (statement_or_items (Some (string s)))
  part_judged path (Some (array ds)) = by_test (has_items ds) refl
    where
      by_test : (b : Bool) → has_items ds ≡ b
          → Judged (place_at path (Some (array ds)) StatementOrList ∷ each_item (statement_places kind) path 0 ds) (if b then statements.items_fault kind path 0 ds else Some (fault.BadShape path))
      by_test true has = passes (place_at path (Some (array ds)) StatementOrList) (each_item (statement_places kind) path 0 ds) (statements.items_fault kind path 0 ds) (inr (ds, refl, has)) (statements_judged path 0 ds)
      by_test false has = stops (place_at path (Some (array ds)) StatementOrList) (each_item (statement_places kind) path 0 ds) (λ h. false≢true (sym has ∙ statement_or_items (Some (array ds)) h))
  part_judged path (Some (object ms)) =
      passes (place_at path (Some (object ms)) StatementOrList) (statement_places kind path (object ms)) (statement_fault kind path (object ms)) (inl (ms, refl)) (statement_judged path (object ms))

  -- ---- documents

  document_judged : (root : Data) → Judged (places_of kind root) (first_fault kind root)
  unfolding first_fault
  document_judged null = stops (place_at [] (Some null) AnObject) [] (object_alone (Some null))
  document_judged (boolean b) = stops (place_at [] (Some (boolean b)) AnObject) [] (object_alone (Some (boolean b)))
  document_judged (number n) = stops (place_at [] (Some (number n)) AnObject) [] (object_alone (Some (number n)))
  document_judged (string s) = stops (place_at [] (Some (string s)) AnObject) [] (object_alone (Some (string s)))
  document_judged (array ds) = stops (place_at [] (Some (array ds)) AnObject) [] (object_alone (Some (array ds)))
  document_judged (object ms) =
      let others = each_member (other_place document_names) [] ms in
      let head = member_place [] (codes "Version") ms VersionOrNothing ∷ member_place [] (codes "Id") ms TextOrNothing ∷ [] in
      let parts = statements_places kind (member_path [] (codes "Statement")) (get_member (codes "Statement") ms) in
      let head_fault = option_or (unknown_fault document_names [] ms) (option_or (version_fault (member_path [] (codes "Version")) (get_member (codes "Version") ms)) (optional_fault (member_path [] (codes "Id")) (get_member (codes "Id") ms))) in
      let parts_fault = statement_part_fault kind (member_path [] (codes "Statement")) (get_member (codes "Statement") ms) in
      passes (place_at [] (Some (object ms)) AnObject) (document_members kind ms) (option_or head_fault parts_fault) (ms, refl)
      (subst (λ places. Judged places (option_or head_fault parts_fault)) (append_assoc others head parts)
      (both (others ++ head) parts head_fault parts_fault
      (both others head _ _ (others_judged document_names [] ms)
      (both (member_place [] (codes "Version") ms VersionOrNothing ∷ []) (member_place [] (codes "Id") ms TextOrNothing ∷ []) _ _ (version_judged (member_path [] (codes "Version")) (get_member (codes "Version") ms)) (optional_judged (member_path [] (codes "Id")) (get_member (codes "Id") ms))))
      (part_judged (member_path [] (codes "Statement")) (get_member (codes "Statement") ms))))

pub first_fault_is : FirstFaultIsAtTheFirstPlace
first_fault_is kind root = (judged_fault (places_of kind root) (first_fault kind root) (document_judged kind root), judged_none (places_of kind root) (first_fault kind root) (document_judged kind root))
