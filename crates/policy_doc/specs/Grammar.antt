-- The grammar of policies: the relation between a JSON value and the statements that it makes.
use Rattle.std.specs.Prelude.{◌≡◌, ℕ, Bool, true, false, IsTrue, ◌||◌, List, [], ◌∷◌, ◌++◌, codes, Option, Some, None, ⊤}
use Rattle.std.specs.List.{filter_map}
use Rattle.std.specs.Str.{bytes_eq}
use Rattle.cond_ops.specs.declared.conditions.Condition.{Condition}
use Rattle.cond_ops.specs.declared.qualified.QualifiedOperator.{QualifiedOperator}
use Rattle.cond_ops.specs.Qualified.{IsOperatorText}
use Rattle.cond_ops.specs.Value.{IsValue}
use Rattle.serde_json.specs.Data.{Data, null, boolean, number, string, array, object, Items, no_items, item, Members, no_members, member}
use Rattle.serde_json.specs.Find.{get}
use Rattle.policy_doc.specs.declared.forms.Form.{Form}
use Rattle.policy_doc.specs.declared.forms.Form.TheVariants.{Action, Resource, Caller, Stranger, Value}
use Rattle.policy_doc.specs.declared.policies.PolicyKind.{PolicyKind}
use Rattle.policy_doc.specs.declared.policies.PolicyKind.TheVariants.{Key, Identity}
use Rattle.policy_doc.specs.declared.policies.Named.{Named}
use Rattle.policy_doc.specs.declared.policies.Named.TheVariants.{Everyone}
use Rattle.policy_doc.specs.declared.policies.Statement.{Statement}
use Rattle.policy_doc.specs.Forms.{has_colon, has_variable, is_caller, takes_count}
use Rattle.policy_doc.specs.Texts.{text_given, items_len}
use Rattle.policy_doc.specs.Names.{is_known, has_members, has_items}
use Rattle.policy_doc.specs.Callers.{named_of, kind_form}
use Rattle.policy_doc.specs.Operators.{is_unserved}
use Rattle.policy_doc.specs.Statements.{statement_names}
use Rattle.policy_doc.specs.Documents.{is_version, document_names, first_fault, statements_of}

-- a text of its form
abbrev pub HasForm : Form → List ℕ → Type 0
HasForm Action text = IsTrue (bytes_eq text (codes "*") || has_colon text)
HasForm Resource text = has_variable text ≡ false
HasForm Caller text = IsTrue (is_caller text)
HasForm Stranger text = ⊤
HasForm (Value operator) text = (has_variable text ≡ false) × IsValue operator text

-- the value stands for a text of its form
abbrev pub IsText : Form → Data → List ℕ → Type 0
IsText form d text = (text_given form d ≡ Some text) × HasForm form text

abbrev pub AreTexts : Form → Items → List (List ℕ) → Type 0
AreTexts form no_items [] = ⊤
AreTexts form no_items (text ∷ texts) = ⊥
AreTexts form (item d ds) [] = ⊥
AreTexts form (item d ds) (text ∷ texts) = IsText form d text × AreTexts form ds texts

abbrev pub IsOneText : Form → Data → List (List ℕ) → Type 0
IsOneText form d [] = ⊥
IsOneText form d (text ∷ []) = IsText form d text
IsOneText form d (text ∷ other ∷ texts) = ⊥

-- one text, or a list of as many as the form takes
abbrev pub AreTextsOf : Form → Data → List (List ℕ) → Type 0
AreTextsOf form null texts = IsOneText form null texts
AreTextsOf form (boolean b) texts = IsOneText form (boolean b) texts
AreTextsOf form (number n) texts = IsOneText form (number n) texts
AreTextsOf form (string s) texts = IsOneText form (string s) texts
AreTextsOf form (array ds) texts = IsTrue (takes_count form (items_len ds)) × AreTexts form ds texts
AreTextsOf form (object ms) texts = IsOneText form (object ms) texts

-- no member has another name than these
abbrev pub HasOnly : List (List ℕ) → Members → Type 0
HasOnly names no_members = ⊤
HasOnly names (member name d ms) = IsTrue (is_known names name) × HasOnly names ms

-- absent, or a text
abbrev pub IsOptional : Option Data → Type 0
IsOptional None = ⊤
IsOptional (Some null) = ⊥
IsOptional (Some (boolean b)) = ⊥
IsOptional (Some (number n)) = ⊥
IsOptional (Some (string s)) = ⊤
IsOptional (Some (array ds)) = ⊥
IsOptional (Some (object ms)) = ⊥

-- absent, or one of the two versions
abbrev pub IsVersion : Option Data → Type 0
IsVersion None = ⊤
IsVersion (Some null) = ⊥
IsVersion (Some (boolean b)) = ⊥
IsVersion (Some (number n)) = ⊥
IsVersion (Some (string s)) = IsTrue (is_version s)
IsVersion (Some (array ds)) = ⊥
IsVersion (Some (object ms)) = ⊥

-- `Allow`, or `Deny`
abbrev pub IsEffect : Option Data → Bool → Type 0
IsEffect None allow = ⊥
IsEffect (Some null) allow = ⊥
IsEffect (Some (boolean b)) allow = ⊥
IsEffect (Some (number n)) allow = ⊥
IsEffect (Some (string s)) true = s ≡ codes "Allow"
IsEffect (Some (string s)) false = s ≡ codes "Deny"
IsEffect (Some (array ds)) allow = ⊥
IsEffect (Some (object ms)) allow = ⊥

-- those whom a member of Principal names: the texts of AWS name callers, those of the others nobody here
abbrev pub IsKind : Option Form → Data → List Named → Type 0
IsKind None d named = ⊥
IsKind (Some Caller) d named = (texts : List (List ℕ)) × AreTextsOf Caller d texts × (named ≡ filter_map named_of texts)
IsKind (Some Stranger) d named = (texts : List (List ℕ)) × AreTextsOf Stranger d texts × (named ≡ [])
IsKind (Some Action) d named = ⊥
IsKind (Some Resource) d named = ⊥
IsKind (Some (Value operator)) d named = ⊥

abbrev pub AreKinds : Members → List Named → Type 0
AreKinds no_members named = named ≡ []
AreKinds (member name d ms) named =
    (first : List Named) × (others : List Named) × IsKind (kind_form name) d first × AreKinds ms others × (named ≡ first ++ others)

-- the Principal of a key policy: `*`, or an object of one or more members
abbrev pub IsRequired : Option Data → List Named → Type 0
IsRequired None named = ⊥
IsRequired (Some null) named = ⊥
IsRequired (Some (boolean b)) named = ⊥
IsRequired (Some (number n)) named = ⊥
IsRequired (Some (string s)) named = (s ≡ codes "*") × (named ≡ Everyone ∷ [])
IsRequired (Some (array ds)) named = ⊥
IsRequired (Some (object ms)) named = IsTrue (has_members ms) × AreKinds ms named

-- an identity policy has none
abbrev pub IsPrincipalOf : PolicyKind → Option Data → List Named → Type 0
IsPrincipalOf Key given named = IsRequired given named
IsPrincipalOf Identity None named = named ≡ []
IsPrincipalOf Identity (Some d) named = ⊥

-- a member alone, or its Not-form alone
abbrev pub ArePair : Form → Option Data → Option Data → List (List ℕ) → List (List ℕ) → Type 0
ArePair form None None texts not_texts = ⊥
ArePair form (Some d) None texts not_texts = AreTextsOf form d texts × (not_texts ≡ [])
ArePair form None (Some e) texts not_texts = (texts ≡ []) × AreTextsOf form e not_texts
ArePair form (Some d) (Some e) texts not_texts = ⊥

-- a condition of an operator, under a key
abbrev pub IsCondition : QualifiedOperator → List ℕ → Data → Condition → Type 0
IsCondition operator key d condition =
    (condition.operator ≡ operator.operator) × (condition.qualifier ≡ operator.qualifier) × (condition.if_exists ≡ operator.if_exists)
    × (condition.key ≡ key) × AreTextsOf (Value operator.operator) d condition.values

-- the conditions of an operator, in the order of the keys
abbrev pub AreKeys : QualifiedOperator → Members → List Condition → Type 0
AreKeys operator no_members [] = ⊤
AreKeys operator no_members (condition ∷ conditions) = ⊥
AreKeys operator (member key d ms) [] = ⊥
AreKeys operator (member key d ms) (condition ∷ conditions) = IsCondition operator key d condition × AreKeys operator ms conditions

abbrev pub AreUnder : QualifiedOperator → Data → List Condition → Type 0
AreUnder operator null conditions = ⊥
AreUnder operator (boolean b) conditions = ⊥
AreUnder operator (number n) conditions = ⊥
AreUnder operator (string s) conditions = ⊥
AreUnder operator (array ds) conditions = ⊥
AreUnder operator (object ms) conditions = AreKeys operator ms conditions

-- the conditions of a statement, in the order of the operators' texts
abbrev pub AreOperators : Members → List Condition → Type 0
AreOperators no_members conditions = conditions ≡ []
AreOperators (member name d ms) conditions =
    (operator : QualifiedOperator) × (first : List Condition) × (others : List Condition)
    × (is_unserved name ≡ false) × IsOperatorText name operator × AreUnder operator d first × AreOperators ms others × (conditions ≡ first ++ others)

abbrev pub AreConditions : Option Data → List Condition → Type 0
AreConditions None conditions = conditions ≡ []
AreConditions (Some null) conditions = ⊥
AreConditions (Some (boolean b)) conditions = ⊥
AreConditions (Some (number n)) conditions = ⊥
AreConditions (Some (string s)) conditions = ⊥
AreConditions (Some (array ds)) conditions = ⊥
AreConditions (Some (object ms)) conditions = AreOperators ms conditions

-- an object without NotPrincipal whose members are known
abbrev pub IsStatementObject : Data → Type 0
IsStatementObject null = ⊥
IsStatementObject (boolean b) = ⊥
IsStatementObject (number n) = ⊥
IsStatementObject (string s) = ⊥
IsStatementObject (array ds) = ⊥
IsStatementObject (object ms) = (get (codes "NotPrincipal") (object ms) ≡ None) × HasOnly statement_names ms

pub record IsStatement (kind : PolicyKind) (d : Data) (statement : Statement) : Type 0 where
  pub names : IsStatementObject d
  pub sid : IsOptional (get (codes "Sid") d)
  pub effect : IsEffect (get (codes "Effect") d) statement.allow
  pub principal : IsPrincipalOf kind (get (codes "Principal") d) statement.principals
  pub action : ArePair Action (get (codes "Action") d) (get (codes "NotAction") d) statement.actions statement.not_actions
  pub resource : ArePair Resource (get (codes "Resource") d) (get (codes "NotResource") d) statement.resources statement.not_resources
  pub condition : AreConditions (get (codes "Condition") d) statement.conditions

abbrev pub AreStatements : PolicyKind → Items → List Statement → Type 0
AreStatements kind no_items [] = ⊤
AreStatements kind no_items (statement ∷ statements) = ⊥
AreStatements kind (item d ds) [] = ⊥
AreStatements kind (item d ds) (statement ∷ statements) = IsStatement kind d statement × AreStatements kind ds statements

abbrev pub IsOneStatement : PolicyKind → Data → List Statement → Type 0
IsOneStatement kind d [] = ⊥
IsOneStatement kind d (statement ∷ []) = IsStatement kind d statement
IsOneStatement kind d (statement ∷ other ∷ statements) = ⊥

-- one statement, or a list of one or more
abbrev pub AreStatementsOf : PolicyKind → Option Data → List Statement → Type 0
AreStatementsOf kind None statements = ⊥
AreStatementsOf kind (Some null) statements = ⊥
AreStatementsOf kind (Some (boolean b)) statements = ⊥
AreStatementsOf kind (Some (number n)) statements = ⊥
AreStatementsOf kind (Some (string s)) statements = ⊥
AreStatementsOf kind (Some (array ds)) statements = IsTrue (has_items ds) × AreStatements kind ds statements
AreStatementsOf kind (Some (object ms)) statements = IsOneStatement kind (object ms) statements

abbrev pub IsDocumentObject : Data → Type 0
IsDocumentObject null = ⊥
IsDocumentObject (boolean b) = ⊥
IsDocumentObject (number n) = ⊥
IsDocumentObject (string s) = ⊥
IsDocumentObject (array ds) = ⊥
IsDocumentObject (object ms) = HasOnly document_names ms

-- the value is a policy's of this kind, with these statements
pub record IsPolicyOf (kind : PolicyKind) (d : Data) (statements : List Statement) : Type 0 where
  pub names : IsDocumentObject d
  pub version : IsVersion (get (codes "Version") d)
  pub id : IsOptional (get (codes "Id") d)
  pub parts : AreStatementsOf kind (get (codes "Statement") d) statements

-- a value is a policy's exactly where it has no first fault, and then its statements are determined
abbrev pub PolicyOfReads : Type 0
PolicyOfReads =
    (kind : PolicyKind) (d : Data) → (first_fault kind d ≡ None → IsPolicyOf kind d (statements_of kind d))
    × ((statements : List Statement) → IsPolicyOf kind d statements → (first_fault kind d ≡ None) × (statements ≡ statements_of kind d))
