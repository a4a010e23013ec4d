-- Each first fault is at a place, to which its pointer leads.
use Rattle.std.proofs.Common.{◌≡◌, inl, inr, ℕ, ◌+◌, Bool, true, false, ◌||◌, List, [], Option, Some, None, Result, Ok, Err, if◌then◌else◌, refl, subst, arith, zero, suc}
use Rattle.std.specs.Prelude.{codes, option_map, IfSome}
use Rattle.std.specs.Option.{option_or}
use Rattle.std.specs.Str.{bytes_eq}
use Rattle.cond_ops.specs.declared.qualified.QualifiedOperator.{QualifiedOperator}
use Rattle.serde_json.specs.Data.{Data, null, boolean, number, string, array, object, Items, no_items, item, Members, no_members, member}
use Rattle.serde_json.specs.Find.{get_member, get_item}
use Rattle.policy_doc.specs.declared.faults.Departure.{Departure}
use Rattle.policy_doc.specs.declared.faults.Departure.TheVariants.{BadShape, Unsupported}
use Rattle.policy_doc.specs.declared.faults.PolicyFault.{PolicyFault}
use Rattle.policy_doc.specs.declared.faults.PolicyFault.TheVariants as fault
use Rattle.policy_doc.specs.declared.forms.Form.{Form}
use Rattle.policy_doc.specs.declared.forms.Form.TheVariants.{Action, Resource, Value}
use Rattle.policy_doc.specs.declared.policies.PolicyKind.{PolicyKind}
use Rattle.policy_doc.specs.declared.policies.PolicyKind.TheVariants.{Key, Identity}
use Rattle.policy_doc.specs.Paths.{fault_at, member_path, item_path}
use Rattle.policy_doc.specs.Names.{is_known, first_unknown, name_fault, unknown_fault, has_members, has_items}
use Rattle.policy_doc.specs.Forms.{departure_of, takes_count}
use Rattle.policy_doc.specs.Texts.{text_given, given_fault, text_fault, items_len, items_fault, list_fault, texts_fault}
use Rattle.policy_doc.specs.Operators.{named_operator}
use Rattle.policy_doc.specs.Callers.{kind_form, kind_fault, kinds_fault, required_fault, principal_fault}
use Rattle.policy_doc.specs.Conditions.{keys_fault, under_fault, operator_fault, operators_fault, condition_fault}
use Rattle.policy_doc.specs.Statements.{optional_fault, effect_fault, pair_fault, statement_names, not_principal_fault, names_fault, statement_fault}
use Rattle.policy_doc.specs.Statements as statements
use Rattle.policy_doc.specs.Documents.{is_version, version_fault, statement_part_fault, document_names, first_fault}
use Rattle.policy_doc.specs.Places.{StandsAt}
use Rattle.policy_doc.specs.Pointers.{HasMember, PointsTo, IsAtPlace}
use Rattle.policy_doc.proofs.TokenFacts.{is_ascii}
use Rattle.policy_doc.proofs.PointerFacts.{points_root, points_member, points_item, lacks_member, member_found, member_missing}

module _ (root : Data) where
  abbrev At : Option PolicyFault → Type 0
  At first = IfSome first (IsAtPlace root)

  -- the pointer leads to what is given, or to where it lacks
  abbrev Given : List ℕ → Option Data → Type 0
  Given path o = StandsAt root path o

  -- the pointers to the members of an object, and to the items of a list from this index on
  abbrev pub Inside : List ℕ → Members → Type 0
  Inside path ms = (name : List ℕ) (d : Data) → HasMember name d ms → PointsTo (member_path path name) root d

  abbrev pub Within : List ℕ → ℕ → Items → Type 0
  Within path index ds = (i j : ℕ) (d : Data) → get_item i ds ≡ Some d → j ≡ index + i → PointsTo (item_path path j) root d

  at_or : (a b : Option PolicyFault) → At a → At b → At (option_or a b)
  at_or None b x y = y
  at_or (Some f) b x y = x

  at_if : (t : Bool) (a b : Option PolicyFault) → At a → At b → At (if t then a else b)
  at_if true a b x y = x
  at_if false a b x y = y

  pub inside : (path : List ℕ) (ms : Members) → PointsTo path root (object ms) → Inside path ms
  inside path ms points name d has = points_member path name root d ms points has

  pub within : (path : List ℕ) (ds : Items) → PointsTo path root (array ds) → Within path 0 ds
  within path ds points i j d has is = let same : i ≡ j = omega arith in points_item path j root d ds points (subst (λ k. get_item k ds ≡ Some d) same has)

  pub within_first : (path : List ℕ) (index : ℕ) (d : Data) (ds : Items) → Within path index (item d ds) → PointsTo (item_path path index) root d
  within_first path index d ds all = all zero index d refl (omega arith)

  pub within_others : (path : List ℕ) (index : ℕ) (d : Data) (ds : Items) → Within path index (item d ds) → Within path (index + 1) ds
  within_others path index d ds all i j e has is = all (suc i) j e has (omega arith)

  pub given : (path : List ℕ) (ms : Members) → PointsTo path root (object ms) → (name : List ℕ) → is_ascii name ≡ true → StandsAt root (member_path path name) (get_member name ms)
  given path ms points name ascii = by_option (get_member name ms) refl
    where
      by_option : (o : Option Data) → get_member name ms ≡ o → Given (member_path path name) o
      by_option None is = lacks_member path name root ms points ascii (member_missing name ms is)
      by_option (Some d) is = points_member path name root d ms points (member_found name d ms is)

  at_departure : (departure : Departure) (path : List ℕ) (d : Data) → PointsTo path root d → IsAtPlace root (fault_at departure path)
  at_departure BadShape path d points = inl (d, points)
  at_departure Unsupported path d points = (d, points)

  at_map : (o : Option Departure) (path : List ℕ) (d : Data) → PointsTo path root d → At (option_map (λ departure. fault_at departure path) o)
  at_map None path d points = tt
  at_map (Some departure) path d points = at_departure departure path d points

  at_given : (form : Form) (path : List ℕ) (o : Option (List ℕ)) (d : Data) → PointsTo path root d → At (given_fault form path o)
  at_given form path None d points = inl (d, points)
  at_given form path (Some text) d points = at_map (departure_of form text) path d points

  at_text : (form : Form) (path : List ℕ) (d : Data) → PointsTo path root d → At (text_fault form path d)
  at_text form path d points = at_given form path (text_given form d) d points

  at_items : (form : Form) (path : List ℕ) (index : ℕ) (ds : Items) → Within path index ds → At (items_fault form path index ds)
  at_items form path index no_items all = tt
  at_items form path index (item d ds) all =
      at_or _ _ (at_text form (item_path path index) d (within_first path index d ds all)) (at_items form path (index + 1) ds (within_others path index d ds all))

  at_list : (b : Bool) (form : Form) (path : List ℕ) (ds : Items) → PointsTo path root (array ds) → At (list_fault b form path ds)
  at_list true form path ds points = at_items form path 0 ds (within path ds points)
  at_list false form path ds points = inl (array ds, points)

  at_texts : (form : Form) (path : List ℕ) (d : Data) → PointsTo path root d → At (texts_fault form path d)
  at_texts form path null points = at_text form path null points
  at_texts form path (boolean b) points = at_text form path (boolean b) points
  at_texts form path (number n) points = at_text form path (number n) points
  at_texts form path (string s) points = at_text form path (string s) points
  at_texts form path (array ds) points = at_list (takes_count form (items_len ds)) form path ds points
  at_texts form path (object ms) points = at_text form path (object ms) points

  at_unknown_if : (b : Bool) (path name : List ℕ) (d : Data) (later : Option (List ℕ)) → PointsTo (member_path path name) root d → At (name_fault path later) → At (name_fault path (if b then later else Some name))
  at_unknown_if true path name d later points others = others
  at_unknown_if false path name d later points others = inl (d, points)

  at_unknown : (names : List (List ℕ)) (path : List ℕ) (ms : Members) → Inside path ms → At (unknown_fault names path ms)
  at_unknown names path no_members all = tt
  at_unknown names path (member name d ms) all =
      at_unknown_if (is_known names name) path name d (first_unknown names ms) (all name d (inl (refl, refl))) (at_unknown names path ms (λ n e has. all n e (inr has)))

  at_optional : (path : List ℕ) (o : Option Data) → Given path o → At (optional_fault path o)
  at_optional path None points = tt
  at_optional path (Some null) points = inl (null, points)
  at_optional path (Some (boolean b)) points = inl (boolean b, points)
  at_optional path (Some (number n)) points = inl (number n, points)
  at_optional path (Some (string s)) points = tt
  at_optional path (Some (array ds)) points = inl (array ds, points)
  at_optional path (Some (object ms)) points = inl (object ms, points)

  at_version : (path : List ℕ) (o : Option Data) → Given path o → At (version_fault path o)
  at_version path None points = tt
  at_version path (Some null) points = inl (null, points)
  at_version path (Some (boolean b)) points = inl (boolean b, points)
  at_version path (Some (number n)) points = inl (number n, points)
  at_version path (Some (string s)) points = at_if (is_version s) None (Some (fault.BadShape path)) tt (inl (string s, points))
  at_version path (Some (array ds)) points = inl (array ds, points)
  at_version path (Some (object ms)) points = inl (object ms, points)

  at_effect : (path : List ℕ) (o : Option Data) → Given path o → At (effect_fault path o)
  at_effect path None lacks = inr lacks
  at_effect path (Some null) points = inl (null, points)
  at_effect path (Some (boolean b)) points = inl (boolean b, points)
  at_effect path (Some (number n)) points = inl (number n, points)
  at_effect path (Some (string s)) points = at_if (bytes_eq s (codes "Allow") || bytes_eq s (codes "Deny")) None (Some (fault.BadShape path)) tt (inl (string s, points))
  at_effect path (Some (array ds)) points = inl (array ds, points)
  at_effect path (Some (object ms)) points = inl (object ms, points)

  at_kind : (form : Option Form) (path : List ℕ) (d : Data) → PointsTo path root d → At (kind_fault form path d)
  at_kind None path d points = inl (d, points)
  at_kind (Some form) path d points = at_texts form path d points

  at_kinds : (path : List ℕ) (ms : Members) → Inside path ms → At (kinds_fault path ms)
  at_kinds path no_members all = tt
  at_kinds path (member name d ms) all =
      at_or _ _ (at_kind (kind_form name) (member_path path name) d (all name d (inl (refl, refl)))) (at_kinds path ms (λ n e has. all n e (inr has)))

  at_required : (path : List ℕ) (o : Option Data) → Given path o → At (required_fault path o)
  at_required path None lacks = inr lacks
  at_required path (Some null) points = inl (null, points)
  at_required path (Some (boolean b)) points = inl (boolean b, points)
  at_required path (Some (number n)) points = inl (number n, points)
  at_required path (Some (string s)) points = at_if (bytes_eq s (codes "*")) None (Some (fault.BadShape path)) tt (inl (string s, points))
  at_required path (Some (array ds)) points = inl (array ds, points)
  at_required path (Some (object ms)) points = at_if (has_members ms) (kinds_fault path ms) (Some (fault.BadShape path)) (at_kinds path ms (inside path ms points)) (inl (object ms, points))

  at_principal : (kind : PolicyKind) (path : List ℕ) (o : Option Data) → Given path o → At (principal_fault kind path o)
  at_principal Key path o points = at_required path o points
  at_principal Identity path None points = tt
  at_principal Identity path (Some d) points = inl (d, points)

  at_pair : (form : Form) (path : List ℕ) (o : Option Data) (not_path : List ℕ) (n : Option Data) → Given path o → Given not_path n → At (pair_fault form path o not_path n)
  at_pair form path None not_path None lacks others = inr lacks
  at_pair form path (Some d) not_path None points others = at_texts form path d points
  at_pair form path None not_path (Some e) lacks points = at_texts form not_path e points
  at_pair form path (Some d) not_path (Some e) points others = inl (d, points)

  at_keys : (operator : QualifiedOperator) (path : List ℕ) (ms : Members) → Inside path ms → At (keys_fault operator path ms)
  at_keys operator path no_members all = tt
  at_keys operator path (member key d ms) all =
      at_or _ _ (at_texts (Value operator.operator) (member_path path key) d (all key d (inl (refl, refl)))) (at_keys operator path ms (λ n e has. all n e (inr has)))

  at_under : (operator : QualifiedOperator) (path : List ℕ) (d : Data) → PointsTo path root d → At (under_fault operator path d)
  at_under operator path null points = inl (null, points)
  at_under operator path (boolean b) points = inl (boolean b, points)
  at_under operator path (number n) points = inl (number n, points)
  at_under operator path (string s) points = inl (string s, points)
  at_under operator path (array ds) points = inl (array ds, points)
  at_under operator path (object ms) points = at_keys operator path ms (inside path ms points)

  at_operator : (operator : Result QualifiedOperator Departure) (path : List ℕ) (d : Data) → PointsTo path root d → At (operator_fault operator path d)
  at_operator (Ok operator) path d points = at_under operator path d points
  at_operator (Err departure) path d points = at_departure departure path d points

  at_operators : (path : List ℕ) (ms : Members) → Inside path ms → At (operators_fault path ms)
  at_operators path no_members all = tt
  at_operators path (member name d ms) all =
      at_or _ _ (at_operator (named_operator name) (member_path path name) d (all name d (inl (refl, refl)))) (at_operators path ms (λ n e has. all n e (inr has)))

  at_condition : (path : List ℕ) (o : Option Data) → Given path o → At (condition_fault path o)
  at_condition path None points = tt
  at_condition path (Some null) points = inl (null, points)
  at_condition path (Some (boolean b)) points = inl (boolean b, points)
  at_condition path (Some (number n)) points = inl (number n, points)
  at_condition path (Some (string s)) points = inl (string s, points)
  at_condition path (Some (array ds)) points = inl (array ds, points)
  at_condition path (Some (object ms)) points = at_operators path ms (inside path ms points)

  at_not_principal : (path : List ℕ) (o : Option Data) → Given path o → At (not_principal_fault path o)
  at_not_principal path None points = tt
  at_not_principal path (Some d) points = (d, points)

  at_names : (path : List ℕ) (ms : Members) → PointsTo path root (object ms) → At (names_fault path (object ms))
  at_names path ms points =
      at_or _ _ (at_not_principal (member_path path (codes "NotPrincipal")) (get_member (codes "NotPrincipal") ms) (given path ms points (codes "NotPrincipal") refl))
      (at_unknown statement_names path ms (inside path ms points))

  at_statement : (kind : PolicyKind) (path : List ℕ) (d : Data) → PointsTo path root d → At (statement_fault kind path d)
  at_statement kind path null points = inl (null, points)
  at_statement kind path (boolean b) points = inl (boolean b, points)
  at_statement kind path (number n) points = inl (number n, points)
  at_statement kind path (string s) points = inl (string s, points)
  at_statement kind path (array ds) points = inl (array ds, points)
  at_statement kind path (object ms) points =
      let at = given path ms points in
      at_or _ _ (at_names path ms points)
      (at_or _ _ (at_optional (member_path path (codes "Sid")) (get_member (codes "Sid") ms) (at (codes "Sid") refl))
      (at_or _ _ (at_effect (member_path path (codes "Effect")) (get_member (codes "Effect") ms) (at (codes "Effect") refl))
      (at_or _ _ (at_principal kind (member_path path (codes "Principal")) (get_member (codes "Principal") ms) (at (codes "Principal") refl))
      (at_or _ _ (at_pair Action (member_path path (codes "Action")) (get_member (codes "Action") ms) (member_path path (codes "NotAction")) (get_member (codes "NotAction") ms) (at (codes "Action") refl) (at (codes "NotAction") refl))
      (at_or _ _ (at_pair Resource (member_path path (codes "Resource")) (get_member (codes "Resource") ms) (member_path path (codes "NotResource")) (get_member (codes "NotResource") ms) (at (codes "Resource") refl) (at (codes "NotResource") refl))
      (at_condition (member_path path (codes "Condition")) (get_member (codes "Condition") ms) (at (codes "Condition") refl)))))))

  at_statements : (kind : PolicyKind) (path : List ℕ) (index : ℕ) (ds : Items) → Within path index ds → At (statements.items_fault kind path index ds)
  at_statements kind path index no_items all = tt
  at_statements kind path index (item d ds) all =
      at_or _ _ (at_statement kind (item_path path index) d (within_first path index d ds all)) (at_statements kind path (index + 1) ds (within_others path index d ds all))

  at_part : (kind : PolicyKind) (path : List ℕ) (o : Option Data) → Given path o → At (statement_part_fault kind path o)
  at_part kind path None lacks = inr lacks
  at_part kind path (Some null) points = inl (null, points)
  at_part kind path (Some (boolean b)) points = inl (boolean b, points)
  at_part kind path (Some (number n)) points = inl (number n, points)
  at_part kind path (Some (string s)) points = inl (string s, points)
  at_part kind path (Some (array ds)) points = at_if (has_items ds) (statements.items_fault kind path 0 ds) (Some (fault.BadShape path)) (at_statements kind path 0 ds (within path ds points)) (inl (array ds, points))
  at_part kind path (Some (object ms)) points = at_statement kind path (object ms) points

pub at_place : (kind : PolicyKind) (root : Data) → IfSome (first_fault kind root) (IsAtPlace root)
unfolding first_fault
at_place kind null = inl (null, points_root null)
at_place kind (boolean b) = inl (boolean b, points_root (boolean b))
at_place kind (number n) = inl (number n, points_root (number n))
at_place kind (string s) = inl (string s, points_root (string s))
at_place kind (array ds) = inl (array ds, points_root (array ds))
at_place kind (object ms) =
    let at = given (object ms) [] ms (points_root (object ms)) in
    at_or (object ms) _ _
    (at_or (object ms) _ _ (at_unknown (object ms) document_names [] ms (inside (object ms) [] ms (points_root (object ms))))
    (at_or (object ms) _ _ (at_version (object ms) (member_path [] (codes "Version")) (get_member (codes "Version") ms) (at (codes "Version") refl))
    (at_optional (object ms) (member_path [] (codes "Id")) (get_member (codes "Id") ms) (at (codes "Id") refl))))
    (at_part (object ms) kind (member_path [] (codes "Statement")) (get_member (codes "Statement") ms) (at (codes "Statement") refl))
