-- The places of a document in the order in which they are judged, and which of them is its first fault.
use Rattle.std.specs.Prelude.{◌≡◌, ◌≢◌, ◌↔◌, ◌⊎◌, ℕ, ◌+◌, Bool, false, IsTrue, List, [], ◌∷◌, ◌++◌, map, codes, Option, Some, None, if◌then◌else◌}
use Rattle.std.specs.List.{All}
use Rattle.cond_ops.specs.declared.qualified.QualifiedOperator.{QualifiedOperator}
use Rattle.cond_ops.specs.Qualified.{IsOperatorText}
use Rattle.serde_json.specs.Data.{Data, null, boolean, number, string, array, object, Items, no_items, item, Members, no_members, member}
use Rattle.serde_json.specs.Find.{get_member}
use Rattle.policy_doc.specs.declared.faults.Departure.{Departure}
use Rattle.policy_doc.specs.declared.faults.Departure.TheVariants.{BadShape, Unsupported}
use Rattle.policy_doc.specs.declared.faults.PolicyFault.{PolicyFault}
use Rattle.policy_doc.specs.declared.forms.Form.{Form}
use Rattle.policy_doc.specs.declared.forms.Form.TheVariants.{Action, Resource, Caller, Stranger, Value}
use Rattle.policy_doc.specs.declared.policies.PolicyKind.{PolicyKind}
use Rattle.policy_doc.specs.declared.policies.PolicyKind.TheVariants.{Key, Identity}
use Rattle.policy_doc.specs.Callers.{kind_form}
use Rattle.policy_doc.specs.Documents.{document_names, first_fault}
use Rattle.policy_doc.specs.Forms.{has_variable, takes_count}
use Rattle.policy_doc.specs.Grammar.{HasForm, IsEffect, IsOptional, IsVersion}
use Rattle.policy_doc.specs.Names.{has_items, has_members, is_known}
use Rattle.policy_doc.specs.Operators.{is_unserved, operator_of}
use Rattle.policy_doc.specs.Paths.{fault_at, item_path, member_path}
use Rattle.policy_doc.specs.Pointers.{LacksMember, PointsTo}
use Rattle.policy_doc.specs.Statements.{statement_names}
use Rattle.policy_doc.specs.Texts.{items_len, text_given}

-- ---- rules

-- what may be asked of a place
pub data Rule : Type 0 where
  AnObject : Rule
  ObjectOrNothing : Rule
  Nothing : Rule
  NotServed : Rule
  TextOrNothing : Rule
  VersionOrNothing : Rule
  AnEffect : Rule
  StatementOrList : Rule
  StarOrObject : Rule
  OneOfTwo : Option Data → Rule
  ServedOperator : List ℕ → Rule
  OperatorName : List ℕ → Rule
  ListOf : Form → Rule
  AText : Form → Rule
  NoVariable : Form → Rule
  TextOf : Form → Rule

-- what stands there is an object
abbrev pub IsObject : Option Data → Type 0
IsObject given = (ms : Members) × (given ≡ Some (object ms))

-- what stands there stands for this text; truth values and whole numbers do so among the values of conditions
abbrev pub StandsFor : Form → Option Data → List ℕ → Type 0
StandsFor form None text = ⊥
StandsFor form (Some d) text = text_given form d ≡ Some text

-- what stands there is as the rule asks. `OneOfTwo` is told what stands at the Not-form, and the rules of operators the
-- name of the member
abbrev pub Fits : Rule → Option Data → Type 0
Fits AnObject given = IsObject given
Fits ObjectOrNothing given = (given ≡ None) ⊎ IsObject given
Fits Nothing given = given ≡ None
Fits NotServed given = given ≡ None
Fits TextOrNothing given = IsOptional given
Fits VersionOrNothing given = IsVersion given
Fits AnEffect given = (allow : Bool) × IsEffect given allow
Fits StatementOrList given = IsObject given ⊎ ((ds : Items) × (given ≡ Some (array ds)) × IsTrue (has_items ds))
Fits StarOrObject given = (given ≡ Some (string (codes "*"))) ⊎ ((ms : Members) × (given ≡ Some (object ms)) × IsTrue (has_members ms))
Fits (OneOfTwo other) given = ((given ≢ None) × (other ≡ None)) ⊎ ((given ≡ None) × (other ≢ None))
Fits (ServedOperator name) given = is_unserved name ≡ false
Fits (OperatorName name) given = (operator : QualifiedOperator) × IsOperatorText name operator
Fits (ListOf form) given = (ds : Items) × (given ≡ Some (array ds)) × IsTrue (takes_count form (items_len ds))
Fits (AText form) given = (text : List ℕ) × StandsFor form given text
Fits (NoVariable form) given = (text : List ℕ) × StandsFor form given text × (has_variable text ≡ false)
Fits (TextOf form) given = (text : List ℕ) × StandsFor form given text × HasForm form text

-- NotPrincipal, operators that aren't served, and `${` are `Unsupported`; all else is `BadShape`
abbrev pub departure_by : Rule → Departure
departure_by NotServed = Unsupported
departure_by (ServedOperator name) = Unsupported
departure_by (NoVariable form) = Unsupported
departure_by _ = BadShape

-- ---- places

-- a place: its JSON pointer (RFC 6901), what stands there, if anything, and what is asked of it. Where several things are
-- asked, the place is listed once for each, in the order in which they are
pub record Place : Type 0 where
  pub path : List ℕ
  pub given : Option Data
  pub rule : Rule

abbrev pub IsRight : Place → Type 0
IsRight place = Fits place.rule place.given

abbrev pub place_fault : Place → PolicyFault
place_fault place = fault_at (departure_by place.rule) place.path

abbrev pub place_at : List ℕ → Option Data → Rule → Place
place_at path given rule = record { path = path; given = given; rule = rule }

-- the member of this name, if it is there
abbrev pub member_place : List ℕ → List ℕ → Members → Rule → Place
member_place path name ms rule = place_at (member_path path name) (get_member name ms) rule

-- the places within an object; there are none within anything else
abbrev pub in_object : (Members → List Place) → Option Data → List Place
in_object places None = []
in_object places (Some null) = []
in_object places (Some (boolean b)) = []
in_object places (Some (number n)) = []
in_object places (Some (string s)) = []
in_object places (Some (array ds)) = []
in_object places (Some (object ms)) = places ms

-- those of each member, told its name and its pointer, in the order in which they stand
abbrev pub each_member : (List ℕ → List ℕ → Data → List Place) → List ℕ → Members → List Place
each_member places path no_members = []
each_member places path (member name d ms) = places name (member_path path name) d ++ each_member places path ms

-- those of each item, told its pointer, in order; the first has this index
abbrev pub each_item : (List ℕ → Data → List Place) → List ℕ → ℕ → Items → List Place
each_item places path index no_items = []
each_item places path index (item d ds) = places (item_path path index) d ++ each_item places path (index + 1) ds

-- a member of another name than these; nothing is to stand there
abbrev pub other_place : List (List ℕ) → List ℕ → List ℕ → Data → List Place
other_place names name path d = if is_known names name then [] else place_at path (Some d) Nothing ∷ []

-- ---- texts

-- what is asked of a text, in order
abbrev pub text_rules : Form → List Rule
text_rules Action = TextOf Action ∷ []
text_rules Resource = AText Resource ∷ NoVariable Resource ∷ []
text_rules Caller = TextOf Caller ∷ []
text_rules Stranger = AText Stranger ∷ []
text_rules (Value operator) = AText (Value operator) ∷ NoVariable (Value operator) ∷ TextOf (Value operator) ∷ []

abbrev pub text_places : Form → List ℕ → Data → List Place
text_places form path d = map (λ rule. place_at path (Some d) rule) (text_rules form)

-- a list of texts: itself, and then its items; or one text
abbrev pub texts_places : Form → List ℕ → Data → List Place
texts_places form path null = text_places form path null
texts_places form path (boolean b) = text_places form path (boolean b)
texts_places form path (number n) = text_places form path (number n)
texts_places form path (string s) = text_places form path (string s)
texts_places form path (array ds) = place_at path (Some (array ds)) (ListOf form) ∷ each_item (text_places form) path 0 ds
texts_places form path (object ms) = text_places form path (object ms)

abbrev pub given_places : Form → List ℕ → Option Data → List Place
given_places form path None = []
given_places form path (Some d) = texts_places form path d

-- a member and its Not-form: first that just one of them stands, and then the texts of that one
abbrev pub pair_places : Form → List ℕ → List ℕ → List ℕ → Members → List Place
pair_places form path name not_name ms =
    member_place path name ms (OneOfTwo (get_member not_name ms))
    ∷ (given_places form (member_path path name) (get_member name ms)
    ++ given_places form (member_path path not_name) (get_member not_name ms))

-- ---- Principal

-- its members AWS, Service, Federated and CanonicalUser; nothing is to stand at another name
abbrev pub kind_places : Option Form → List ℕ → Data → List Place
kind_places None path d = place_at path (Some d) Nothing ∷ []
kind_places (Some form) path d = texts_places form path d

abbrev pub principal_places : PolicyKind → List ℕ → Option Data → List Place
principal_places Key path given =
    place_at path given StarOrObject ∷ in_object (each_member (λ name. kind_places (kind_form name)) path) given
principal_places Identity path given = place_at path given Nothing ∷ []

-- ---- Condition

-- under an operator: its condition keys
abbrev pub key_places : Option QualifiedOperator → List ℕ → Members → List Place
key_places None path ms = []
key_places (Some operator) path ms = each_member (λ key. texts_places (Value operator.operator)) path ms

-- an operator: its name, itself, and then what stands under it
abbrev pub operator_places : List ℕ → List ℕ → Data → List Place
operator_places name path d =
    place_at path (Some d) (ServedOperator name)
    ∷ place_at path (Some d) (OperatorName name)
    ∷ place_at path (Some d) AnObject
    ∷ in_object (key_places (operator_of name) path) (Some d)

abbrev pub condition_places : List ℕ → Option Data → List Place
condition_places path given = place_at path given ObjectOrNothing ∷ in_object (each_member operator_places path) given

-- ---- statements and documents

-- the members of a statement: NotPrincipal, those of other names, and then the others in this order
abbrev pub statement_members : PolicyKind → List ℕ → Members → List Place
statement_members kind path ms =
    member_place path (codes "NotPrincipal") ms NotServed
    ∷ (each_member (other_place statement_names) path ms
    ++ (member_place path (codes "Sid") ms TextOrNothing
    ∷ member_place path (codes "Effect") ms AnEffect
    ∷ (principal_places kind (member_path path (codes "Principal")) (get_member (codes "Principal") ms)
    ++ (pair_places Action path (codes "Action") (codes "NotAction") ms
    ++ (pair_places Resource path (codes "Resource") (codes "NotResource") ms
    ++ condition_places (member_path path (codes "Condition")) (get_member (codes "Condition") ms))))))

abbrev pub statement_places : PolicyKind → List ℕ → Data → List Place
statement_places kind path d = place_at path (Some d) AnObject ∷ in_object (statement_members kind path) (Some d)

-- one statement, or each of a list
abbrev pub each_statement : PolicyKind → List ℕ → Option Data → List Place
each_statement kind path None = []
each_statement kind path (Some null) = []
each_statement kind path (Some (boolean b)) = []
each_statement kind path (Some (number n)) = []
each_statement kind path (Some (string s)) = []
each_statement kind path (Some (array ds)) = each_item (statement_places kind) path 0 ds
each_statement kind path (Some (object ms)) = statement_places kind path (object ms)

abbrev pub statements_places : PolicyKind → List ℕ → Option Data → List Place
statements_places kind path given = place_at path given StatementOrList ∷ each_statement kind path given

-- the members of a document: those of other names, and then the others in this order
abbrev pub document_members : PolicyKind → Members → List Place
document_members kind ms =
    each_member (other_place document_names) [] ms
    ++ (member_place [] (codes "Version") ms VersionOrNothing
    ∷ member_place [] (codes "Id") ms TextOrNothing
    ∷ statements_places kind (member_path [] (codes "Statement")) (get_member (codes "Statement") ms))

-- a document: itself, and then its members
abbrev pub places_of : PolicyKind → Data → List Place
places_of kind root = place_at [] (Some root) AnObject ∷ in_object (document_members kind) (Some root)

-- ---- the first fault

-- the first place that isn't right
pub record IsFirstFaultOf (places : List Place) (fault : PolicyFault) : Type 0 where
  pub before : List Place
  pub place : Place
  pub behind : List Place
  pub order : places ≡ before ++ place ∷ behind
  pub right : All IsRight before
  pub wrong : ¬ (IsRight place)
  pub at : fault ≡ place_fault place

-- that of a document
abbrev pub IsFirstFault : PolicyKind → Data → PolicyFault → Type 0
IsFirstFault kind root fault = IsFirstFaultOf (places_of kind root) fault

-- a document is judged by its places: its first fault is exactly that of the first place that isn't right, and it has none
-- exactly where all are right
abbrev pub FirstFaultIsAtTheFirstPlace : Type 0
FirstFaultIsAtTheFirstPlace =
    (kind : PolicyKind) (root : Data) → ((fault : PolicyFault) → first_fault kind root ≡ Some fault ↔ IsFirstFault kind root fault)
    × (first_fault kind root ≡ None ↔ All IsRight (places_of kind root))

-- from the root the pointer leads to what is given, or, where nothing is, to a member that an object lacks
abbrev pub StandsAt : Data → List ℕ → Option Data → Type 0
StandsAt root path None = LacksMember path root
StandsAt root path (Some d) = PointsTo path root d

-- what each place is judged by stands at its pointer
abbrev pub PlacesStandInTheValue : Type 0
PlacesStandInTheValue = (kind : PolicyKind) (root : Data) → All (λ place. StandsAt root place.path place.given) (places_of kind root)
