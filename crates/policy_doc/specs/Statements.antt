-- Statements (IAM User Guide, "IAM JSON policy elements: Statement").
use Rattle.std.specs.Prelude.{ℕ, ◌+◌, ◌||◌, Bool, false, List, [], ◌∷◌, codes, Option, Some, None, if◌then◌else◌}
use Rattle.std.specs.Option.{option_or}
use Rattle.std.specs.Str.{bytes_eq}
use Rattle.serde_json.specs.Data.{Data, null, boolean, number, string, array, object, Items, no_items, item}
use Rattle.serde_json.specs.Find.{get}
use Rattle.policy_doc.specs.declared.faults.PolicyFault.{PolicyFault}
use Rattle.policy_doc.specs.declared.faults.PolicyFault.TheVariants as fault
use Rattle.policy_doc.specs.declared.forms.Form.{Form}
use Rattle.policy_doc.specs.declared.forms.Form.TheVariants.{Action, Resource}
use Rattle.policy_doc.specs.declared.policies.PolicyKind.{PolicyKind}
use Rattle.policy_doc.specs.declared.policies.Statement.{Statement}
use Rattle.policy_doc.specs.Paths.{member_path, item_path}
use Rattle.policy_doc.specs.Names.{unknown_fault}
use Rattle.policy_doc.specs.Texts.{texts_fault, texts_of}
use Rattle.policy_doc.specs.Callers.{principal_fault, principal_named}
use Rattle.policy_doc.specs.Conditions.{condition_fault, conditions_of}

-- a member that is absent or a text
abbrev pub optional_fault : List ℕ → Option Data → Option PolicyFault
optional_fault path None = None
optional_fault path (Some null) = Some (fault.BadShape path)
optional_fault path (Some (boolean b)) = Some (fault.BadShape path)
optional_fault path (Some (number n)) = Some (fault.BadShape path)
optional_fault path (Some (string s)) = None
optional_fault path (Some (array ds)) = Some (fault.BadShape path)
optional_fault path (Some (object ms)) = Some (fault.BadShape path)

-- Effect is `Allow` or `Deny`
abbrev pub effect_fault : List ℕ → Option Data → Option PolicyFault
effect_fault path None = Some (fault.BadShape path)
effect_fault path (Some null) = Some (fault.BadShape path)
effect_fault path (Some (boolean b)) = Some (fault.BadShape path)
effect_fault path (Some (number n)) = Some (fault.BadShape path)
effect_fault path (Some (string s)) = if bytes_eq s (codes "Allow") || bytes_eq s (codes "Deny") then None else Some (fault.BadShape path)
effect_fault path (Some (array ds)) = Some (fault.BadShape path)
effect_fault path (Some (object ms)) = Some (fault.BadShape path)

abbrev pub effect_of : Option Data → Bool
effect_of None = false
effect_of (Some null) = false
effect_of (Some (boolean b)) = false
effect_of (Some (number n)) = false
effect_of (Some (string s)) = bytes_eq s (codes "Allow")
effect_of (Some (array ds)) = false
effect_of (Some (object ms)) = false

-- a member and its Not-form, of which exactly one stands
abbrev pub pair_fault : Form → List ℕ → Option Data → List ℕ → Option Data → Option PolicyFault
pair_fault form path None not_path None = Some (fault.BadShape path)
pair_fault form path (Some d) not_path None = texts_fault form path d
pair_fault form path None not_path (Some e) = texts_fault form not_path e
pair_fault form path (Some d) not_path (Some e) = Some (fault.BadShape path)

abbrev pub given_texts : Form → Option Data → List (List ℕ)
given_texts form None = []
given_texts form (Some d) = texts_of form d

abbrev pub statement_names : List (List ℕ)
statement_names = codes "Sid" ∷ codes "Effect" ∷ codes "Principal" ∷ codes "NotPrincipal" ∷ codes "Action" ∷ codes "NotAction" ∷ codes "Resource" ∷ codes "NotResource" ∷ codes "Condition" ∷ []

abbrev pub not_principal_fault : List ℕ → Option Data → Option PolicyFault
not_principal_fault path None = None
not_principal_fault path (Some d) = Some (fault.Unsupported path)

-- a statement is an object; NotPrincipal isn't served, and no name stands but those above
abbrev pub names_fault : List ℕ → Data → Option PolicyFault
names_fault path null = Some (fault.BadShape path)
names_fault path (boolean b) = Some (fault.BadShape path)
names_fault path (number n) = Some (fault.BadShape path)
names_fault path (string s) = Some (fault.BadShape path)
names_fault path (array ds) = Some (fault.BadShape path)
names_fault path (object ms) = option_or (not_principal_fault (member_path path (codes "NotPrincipal")) (get (codes "NotPrincipal") (object ms))) (unknown_fault statement_names path ms)

-- the first fault of a statement: its names, and then its members in this order
abbrev pub statement_fault : PolicyKind → List ℕ → Data → Option PolicyFault
statement_fault kind path d =
    option_or (names_fault path d)
    (option_or (optional_fault (member_path path (codes "Sid")) (get (codes "Sid") d))
    (option_or (effect_fault (member_path path (codes "Effect")) (get (codes "Effect") d))
    (option_or (principal_fault kind (member_path path (codes "Principal")) (get (codes "Principal") d))
    (option_or (pair_fault Action (member_path path (codes "Action")) (get (codes "Action") d) (member_path path (codes "NotAction")) (get (codes "NotAction") d))
    (option_or (pair_fault Resource (member_path path (codes "Resource")) (get (codes "Resource") d) (member_path path (codes "NotResource")) (get (codes "NotResource") d))
    (condition_fault (member_path path (codes "Condition")) (get (codes "Condition") d)))))))

abbrev pub statement_of : PolicyKind → Data → Statement
statement_of kind d = record {
  allow = effect_of (get (codes "Effect") d);
  principals = principal_named kind (get (codes "Principal") d);
  actions = given_texts Action (get (codes "Action") d);
  not_actions = given_texts Action (get (codes "NotAction") d);
  resources = given_texts Resource (get (codes "Resource") d);
  not_resources = given_texts Resource (get (codes "NotResource") d);
  conditions = conditions_of (get (codes "Condition") d);
}

-- the first fault of statements, the first of which has this index
abbrev pub items_fault : PolicyKind → List ℕ → ℕ → Items → Option PolicyFault
items_fault kind path index no_items = None
items_fault kind path index (item d ds) = option_or (statement_fault kind (item_path path index) d) (items_fault kind path (index + 1) ds)

abbrev pub items_of : PolicyKind → Items → List Statement
items_of kind no_items = []
items_of kind (item d ds) = statement_of kind d ∷ items_of kind ds
