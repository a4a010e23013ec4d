-- What each place is judged by stands at its pointer.
use Rattle.std.proofs.Common.{inl, inr, ℕ, ◌+◌, Bool, true, false, List, [], ◌∷◌, ◌++◌, Option, Some, None, if◌then◌else◌, refl}
use Rattle.std.specs.Prelude.{codes}
use Rattle.std.specs.List.{All}
use Rattle.std.proofs.lemmas.List.Elements.{All-nil, All-cons, All-append}
use Rattle.cond_ops.specs.declared.qualified.QualifiedOperator.{QualifiedOperator}
use Rattle.serde_json.specs.Data.{Data, null, boolean, number, string, array, object, Items, no_items, item, Members, no_members, member}
use Rattle.serde_json.specs.Find.{get_member}
use Rattle.policy_doc.specs.declared.forms.Form.{Form}
use Rattle.policy_doc.specs.declared.forms.Form.TheVariants.{Action, Resource, Caller, Stranger, Value}
use Rattle.policy_doc.specs.declared.policies.PolicyKind.{PolicyKind}
use Rattle.policy_doc.specs.declared.policies.PolicyKind.TheVariants.{Key, Identity}
use Rattle.policy_doc.specs.Callers.{kind_form}
use Rattle.policy_doc.specs.Documents.{document_names}
use Rattle.policy_doc.specs.Names.{is_known}
use Rattle.policy_doc.specs.Operators.{operator_of}
use Rattle.policy_doc.specs.Paths.{item_path, member_path}
use Rattle.policy_doc.specs.Places.{Rule, AnObject, Nothing, ServedOperator, OperatorName, ListOf, AText, NoVariable, TextOf, Place, place_at, in_object, each_member, each_item, other_place, text_places, texts_places, given_places, pair_places, kind_places, principal_places, key_places, operator_places, condition_places, statement_members, statement_places, each_statement, document_members, StandsAt, PlacesStandInTheValue}
use Rattle.policy_doc.specs.Pointers.{PointsTo}
use Rattle.policy_doc.specs.Statements.{statement_names}
use Rattle.policy_doc.proofs.PlaceFacts.{Inside, Within, inside, within, within_first, within_others, given}
use Rattle.policy_doc.proofs.PointerFacts.{points_root}

abbrev Stands : Data → Place → Type 0
Stands root place = StandsAt root place.path place.given

-- each of the places stands; a record, so that its list may be left to be found
record AllStand (root : Data) (places : List Place) : Type 0 where
  all : All (Stands root) places

module _ (root : Data) where
  abbrev Stand : List Place → Type 0
  Stand places = AllStand root places

  none : Stand []
  none = record { all = All-nil (Stands root) }

  first : (path : List ℕ) (o : Option Data) (rule : Rule) (more : List Place) → StandsAt root path o → Stand more → Stand (place_at path o rule ∷ more)
  first path o rule more stands others = record { all = All-cons (Stands root) (place_at path o rule) more stands others.all }

  both : (places more : List Place) → Stand places → Stand more → Stand (places ++ more)
  both places more stand others = record { all = All-append (Stands root) places more stand.all others.all }

  -- ---- members and items

  members_stand : (places : List ℕ → List ℕ → Data → List Place) → ((name path : List ℕ) (d : Data) → PointsTo path root d → Stand (places name path d))
      → (path : List ℕ) (ms : Members) → Inside root path ms → Stand (each_member places path ms)
  members_stand places each path no_members all = none
  members_stand places each path (member name d ms) all =
      both (places name (member_path path name) d) (each_member places path ms) (each name (member_path path name) d (all name d (inl (refl, refl)))) (members_stand places each path ms (λ n e has. all n e (inr has)))

  items_stand : (places : List ℕ → Data → List Place) → ((path : List ℕ) (d : Data) → PointsTo path root d → Stand (places path d))
      → (path : List ℕ) (index : ℕ) (ds : Items) → Within root path index ds → Stand (each_item places path index ds)
  items_stand places each path index no_items all = none
  items_stand places each path index (item d ds) all =
      both (places (item_path path index) d) (each_item places path (index + 1) ds) (each (item_path path index) d (within_first root path index d ds all))
      (items_stand places each path (index + 1) ds (within_others root path index d ds all))

  object_stands : (places : Members → List Place) (path : List ℕ) → ((ms : Members) → PointsTo path root (object ms) → Stand (places ms)) → (o : Option Data) → StandsAt root path o → Stand (in_object places o)
  object_stands places path each None stands = none
  object_stands places path each (Some null) stands = none
  object_stands places path each (Some (boolean b)) stands = none
  object_stands places path each (Some (number n)) stands = none
  object_stands places path each (Some (string s)) stands = none
  object_stands places path each (Some (array ds)) stands = none
  object_stands places path each (Some (object ms)) stands = each ms stands

  other_stands : (names : List (List ℕ)) (name path : List ℕ) (d : Data) → PointsTo path root d → Stand (other_place names name path d)
  other_stands names name path d points = by_test (is_known names name)
    where
      by_test : (b : Bool) → Stand (if b then [] else place_at path (Some d) Nothing ∷ [])
      by_test true = none
      by_test false = first path (Some d) Nothing [] points none

  -- ---- texts

  text_stands : (form : Form) (path : List ℕ) (d : Data) → PointsTo path root d → Stand (text_places form path d)
  text_stands Action path d points = first path (Some d) (TextOf Action) [] points none
  text_stands Resource path d points = first path (Some d) (AText Resource) _ points (first path (Some d) (NoVariable Resource) [] points none)
  text_stands Caller path d points = first path (Some d) (TextOf Caller) [] points none
  text_stands Stranger path d points = first path (Some d) (AText Stranger) [] points none
  text_stands (Value operator) path d points =
      first path (Some d) (AText (Value operator)) _ points (first path (Some d) (NoVariable (Value operator)) _ points (first path (Some d) (TextOf (Value operator)) [] points none))

  texts_stand : (form : Form) (path : List ℕ) (d : Data) → PointsTo path root d → Stand (texts_places form path d)
  texts_stand form path null points = text_stands form path null points
  texts_stand form path (boolean b) points = text_stands form path (boolean b) points
  texts_stand form path (number n) points = text_stands form path (number n) points
  texts_stand form path (string s) points = text_stands form path (string s) points
  texts_stand form path (array ds) points =
      first path (Some (array ds)) (ListOf form) (each_item (text_places form) path 0 ds) points (items_stand (text_places form) (text_stands form) path 0 ds (within root path ds points))
  texts_stand form path (object ms) points = text_stands form path (object ms) points

  given_stand : (form : Form) (path : List ℕ) (o : Option Data) → StandsAt root path o → Stand (given_places form path o)
  given_stand form path None stands = none
  given_stand form path (Some d) stands = texts_stand form path d stands

  pair_stands : (form : Form) (path name not_name : List ℕ) (ms : Members) → StandsAt root (member_path path name) (get_member name ms) → StandsAt root (member_path path not_name) (get_member not_name ms)
      → Stand (pair_places form path name not_name ms)
  pair_stands form path name not_name ms stands others =
      first _ _ _ _ stands (both _ _ (given_stand form (member_path path name) (get_member name ms) stands) (given_stand form (member_path path not_name) (get_member not_name ms) others))

  -- ---- Principal and Condition

  kind_stands : (form : Option Form) (path : List ℕ) (d : Data) → PointsTo path root d → Stand (kind_places form path d)
  kind_stands None path d points = first path (Some d) Nothing [] points none
  kind_stands (Some form) path d points = texts_stand form path d points

  principal_stands : (kind : PolicyKind) (path : List ℕ) (o : Option Data) → StandsAt root path o → Stand (principal_places kind path o)
  principal_stands Key path o stands =
      first _ _ _ _ stands
      (object_stands _ path (λ ms points. members_stand (λ name. kind_places (kind_form name)) (λ name. kind_stands (kind_form name)) path ms (inside root path ms points)) o stands)
  principal_stands Identity path o stands = first path o Nothing [] stands none

  keys_stand : (operator : Option QualifiedOperator) (path : List ℕ) (ms : Members) → PointsTo path root (object ms) → Stand (key_places operator path ms)
  keys_stand None path ms points = none
  keys_stand (Some operator) path ms points =
      members_stand (λ key. texts_places (Value operator.operator)) (λ key. texts_stand (Value operator.operator)) path ms (inside root path ms points)

  operator_stands : (name path : List ℕ) (d : Data) → PointsTo path root d → Stand (operator_places name path d)
  operator_stands name path d points =
      first path (Some d) (ServedOperator name) _ points
      (first path (Some d) (OperatorName name) _ points
      (first path (Some d) AnObject _ points (object_stands (key_places (operator_of name) path) path (keys_stand (operator_of name) path) (Some d) points)))

  condition_stands : (path : List ℕ) (o : Option Data) → StandsAt root path o → Stand (condition_places path o)
  condition_stands path o stands =
      first _ _ _ _ stands (object_stands _ path (λ ms points. members_stand operator_places operator_stands path ms (inside root path ms points)) o stands)

  -- ---- statements and documents

  module _ (kind : PolicyKind) where
    statement_members_stand : (path : List ℕ) (ms : Members) → PointsTo path root (object ms) → Stand (statement_members kind path ms)
    statement_members_stand path ms points =
        let at = given root path ms points in
        first _ _ _ _ (at (codes "NotPrincipal") refl)
        (both _ _ (members_stand (other_place statement_names) (other_stands statement_names) path ms (inside root path ms points))
        (first _ _ _ _ (at (codes "Sid") refl)
        (first _ _ _ _ (at (codes "Effect") refl)
        (both _ _ (principal_stands kind (member_path path (codes "Principal")) (get_member (codes "Principal") ms) (at (codes "Principal") refl))
        (both _ _ (pair_stands Action path (codes "Action") (codes "NotAction") ms (at (codes "Action") refl) (at (codes "NotAction") refl))
        (both _ _ (pair_stands Resource path (codes "Resource") (codes "NotResource") ms (at (codes "Resource") refl) (at (codes "NotResource") refl))
        (condition_stands (member_path path (codes "Condition")) (get_member (codes "Condition") ms) (at (codes "Condition") refl))))))))

    statement_stands : (path : List ℕ) (d : Data) → PointsTo path root d → Stand (statement_places kind path d)
    statement_stands path d points = first _ _ _ _ points (object_stands (statement_members kind path) path (statement_members_stand path) (Some d) points)

    each_stands : (path : List ℕ) (o : Option Data) → StandsAt root path o → Stand (each_statement kind path o)
    each_stands path None stands = none
    each_stands path (Some null) stands = none
    each_stands path (Some (boolean b)) stands = none
    each_stands path (Some (number n)) stands = none
    each_stands path (Some (string s)) stands = none
    each_stands path (Some (array ds)) stands = items_stand (statement_places kind) statement_stands path 0 ds (within root path ds stands)
    each_stands path (Some (object ms)) stands = statement_stands path (object ms) stands

    document_stands : (ms : Members) → PointsTo [] root (object ms) → Stand (document_members kind ms)
    document_stands ms points =
        let at = given root [] ms points in
        both _ _ (members_stand (other_place document_names) (other_stands document_names) [] ms (inside root [] ms points))
        (first _ _ _ _ (at (codes "Version") refl)
        (first _ _ _ _ (at (codes "Id") refl)
        (first _ _ _ _ (at (codes "Statement") refl) (each_stands (member_path [] (codes "Statement")) (get_member (codes "Statement") ms) (at (codes "Statement") refl)))))

pub places_stand : PlacesStandInTheValue
places_stand kind root =
    (first root _ _ _ _ (points_root root) (object_stands root (document_members kind) [] (document_stands root kind) (Some root) (points_root root))).all
