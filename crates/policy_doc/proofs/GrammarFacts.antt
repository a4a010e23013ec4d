-- The grammar against its first fault and its statements: a value is of the grammar exactly where it has no
-- fault, and then what it makes is determined.
use Rattle.std.proofs.Common.{◌≡◌, ◌≢◌, ℕ, ◌+◌, Bool, true, false, ◌||◌, List, [], ◌∷◌, ◌++◌, Option, Some, None, refl, sym, ap, ◌∙◌, subst, if◌then◌else◌}
use Rattle.std.specs.Prelude.{codes, unwrap_or, option_map, IsTrue, MatchOption, ⊤}
use Rattle.std.specs.Bool.{Decides}
use Rattle.std.specs.List.{filter_map}
use Rattle.std.specs.Option.{option_or}
use Rattle.std.specs.Str.{bytes_eq}
use Rattle.std.proofs.lemmas.Slice.Eq.{bytes_eq-Decides}
use Rattle.cond_ops.specs.declared.conditions.Condition.{Condition}
use Rattle.cond_ops.specs.declared.qualified.QualifiedOperator.{QualifiedOperator}
use Rattle.cond_ops.specs.Qualified.{IsOperatorText}
use Rattle.cond_ops.specs.Value.{IsValue}
use Rattle.serde_json.specs.Data.{Data, null, boolean, number, string, array, object, Items, no_items, item, Members, no_members, member}
use Rattle.serde_json.specs.Find.{get}
use Rattle.policy_doc.specs.declared.faults.Departure.{Departure}
use Rattle.policy_doc.specs.declared.faults.Departure.TheVariants.{BadShape, Unsupported}
use Rattle.policy_doc.specs.declared.faults.PolicyFault.{PolicyFault}
use Rattle.policy_doc.specs.declared.faults.PolicyFault.TheVariants as fault
use Rattle.policy_doc.specs.declared.forms.Form.{Form}
use Rattle.policy_doc.specs.declared.forms.Form.TheVariants.{Action, Resource, Caller, Stranger, Value}
use Rattle.policy_doc.specs.declared.policies.PolicyKind.{PolicyKind}
use Rattle.policy_doc.specs.declared.policies.PolicyKind.TheVariants.{Key, Identity}
use Rattle.policy_doc.specs.declared.policies.Named.{Named}
use Rattle.policy_doc.specs.declared.policies.Named.TheVariants.{Everyone}
use Rattle.policy_doc.specs.declared.policies.Statement.{Statement}
use Rattle.policy_doc.specs.Paths.{fault_at, member_path, item_path}
use Rattle.policy_doc.specs.Names.{is_known, first_unknown, name_fault, unknown_fault, has_members, has_items}
use Rattle.policy_doc.specs.Forms.{has_colon, has_variable, is_caller, departure_of, value_departure, takes_count}
use Rattle.policy_doc.specs.Texts.{text_given, given_fault, text_fault, text_of, items_len, items_fault, items_of, list_fault, texts_fault, texts_of}
use Rattle.policy_doc.specs.Operators.{is_value_text, is_unserved, operator_or, operator_of, named_operator}
use Rattle.policy_doc.specs.Callers.{named_of, kind_form, kind_fault, kind_named, kinds_fault, kinds_named, required_fault, required_named, principal_fault, principal_named}
use Rattle.policy_doc.specs.Conditions.{keys_fault, condition_of, keys_of, under_fault, under_of, operator_fault, operator_conditions, operators_fault, operators_of, condition_fault, conditions_of}
use Rattle.policy_doc.specs.Statements.{optional_fault, effect_fault, effect_of, pair_fault, given_texts, statement_names, not_principal_fault, names_fault, statement_fault, statement_of}
use Rattle.policy_doc.specs.Statements as statements
use Rattle.policy_doc.specs.Documents.{is_version, version_fault, statement_part_fault, statements_in, document_names, document_names_fault, head_fault, first_fault, statements_of}
use Rattle.policy_doc.specs.Grammar.{HasForm, IsText, AreTexts, IsOneText, AreTextsOf, HasOnly, IsOptional, IsVersion, IsEffect, IsKind, AreKinds, IsRequired, IsPrincipalOf, ArePair, IsCondition, AreKeys, AreUnder, AreOperators, AreConditions, IsStatementObject, IsStatement, AreStatements, IsOneStatement, AreStatementsOf, IsDocumentObject, IsPolicyOf}
use Rattle.policy_doc.proofs.ValueFacts.{value_decides}
use Rattle.policy_doc.proofs.OperatorFacts.{operator_reads, one_operator}

-- no fault, and what is made, against the grammar's relation
abbrev Tells : {A : Type 0} → Option PolicyFault → A → (A → Type 0) → Type 0
Tells {A} first value Is = (first ≡ None → Is value) × ((v : A) → Is v → (first ≡ None) × (v ≡ value))

-- no fault, against a fact
abbrev Checks : Option PolicyFault → Type 0 → Type 0
Checks first P = (first ≡ None → P) × (P → first ≡ None)

some_none : {A B : Type 0} (x : A) → Some x ≡ None → B
some_none x e = let bad : Some x ≡ None = e in absurd (cc)

or_left : {A : Type 0} (a b : Option A) → option_or a b ≡ None → a ≡ None
or_left None b e = refl
or_left (Some x) b e = some_none x e

or_right : {A : Type 0} (a b : Option A) → option_or a b ≡ None → b ≡ None
or_right None b e = e
or_right (Some x) b e = some_none x e

or_none : {A : Type 0} (a b : Option A) → a ≡ None → b ≡ None → option_or a b ≡ None
or_none None b e f = f
or_none (Some x) b e f = some_none x e

cons_same : {A : Type 0} (x y : A) (xs ys : List A) → x ≡ y → xs ≡ ys → (x ∷ xs) ≡ (y ∷ ys)
cons_same x y xs ys e f = cc

pair_same : {A B : Type 0} (v : A × B) (x : A) (y : B) → v.0 ≡ x → v.1 ≡ y → v ≡ (x, y)
pair_same v x y e f = ap (λ a. (a, v.1)) e ∙ ap (λ b. (x, b)) f

condition_same : (v w : Condition) → v.operator ≡ w.operator → v.qualifier ≡ w.qualifier → v.if_exists ≡ w.if_exists → v.key ≡ w.key → v.values ≡ w.values → v ≡ w
condition_same v w a b c d e =
    ap (λ x. record v { operator = x }) a ∙ ap (λ x. record v { operator = w.operator; qualifier = x }) b ∙ ap (λ x. record v { operator = w.operator; qualifier = w.qualifier; if_exists = x }) c
    ∙ ap (λ x. record w { key = x; values = v.values }) d ∙ ap (λ x. record w { values = x }) e

statement_same : (v w : Statement) → v.allow ≡ w.allow → v.principals ≡ w.principals → v.actions ≡ w.actions → v.not_actions ≡ w.not_actions → v.resources ≡ w.resources → v.not_resources ≡ w.not_resources → v.conditions ≡ w.conditions → v ≡ w
statement_same v w a b c d e f g =
    ap (λ x. record v { allow = x }) a ∙ ap (λ x. record v { allow = w.allow; principals = x }) b ∙ ap (λ x. record v { allow = w.allow; principals = w.principals; actions = x }) c
    ∙ ap (λ x. record v { allow = w.allow; principals = w.principals; actions = w.actions; not_actions = x }) d
    ∙ ap (λ x. record w { resources = x; not_resources = v.not_resources; conditions = v.conditions }) e
    ∙ ap (λ x. record w { not_resources = x; conditions = v.conditions }) f ∙ ap (λ x. record w { conditions = x }) g

-- the forms that members of Principal have
abbrev IsPrincipalForm : Option Form → Type 0
IsPrincipalForm None = ⊤
IsPrincipalForm (Some Action) = ⊥
IsPrincipalForm (Some Resource) = ⊥
IsPrincipalForm (Some Caller) = ⊤
IsPrincipalForm (Some Stranger) = ⊤
IsPrincipalForm (Some (Value operator)) = ⊥

-- a test that is a fault where it is false
unless_true : (b : Bool) (f : PolicyFault) → Checks (if b then None else Some f) (IsTrue b)
unless_true true f = (λ _. refl, λ _. refl)
unless_true false f = (λ e. some_none f e, λ e. let bad : false ≡ true = e in absurd (cc))

-- one more at the front, and one more part in front
cons_tells : {A : Type 0} (first second : Option PolicyFault) (x : A) (xs : List A) (Is : A → Type 0) (Are More : List A → Type 0)
    → ((v : List A) → More v → (y : A) × (ys : List A) × (v ≡ y ∷ ys) × Is y × Are ys) → (Is x → Are xs → More (x ∷ xs))
    → Tells first x Is → Tells second xs Are → Tells (option_or first second) (x ∷ xs) More
cons_tells first second x xs Is Are More split join one others = (
  λ e. join (one.0 (or_left first second e)) (others.0 (or_right first second e)),
  λ v h. let parts = split v h in let is = one.1 parts.0 parts.3 in let are = others.1 parts.1 parts.4 in
      (or_none first second is.0 are.0, parts.2 ∙ cons_same parts.0 x parts.1 xs is.1 are.1),
)

append_tells : {A : Type 0} (first second : Option PolicyFault) (xs ys : List A) (Is Are More : List A → Type 0)
    → ((v : List A) → More v → (a : List A) × (b : List A) × (v ≡ a ++ b) × Is a × Are b) → (Is xs → Are ys → More (xs ++ ys))
    → Tells first xs Is → Tells second ys Are → Tells (option_or first second) (xs ++ ys) More
append_tells first second xs ys Is Are More split join one others = (
  λ e. join (one.0 (or_left first second e)) (others.0 (or_right first second e)),
  λ v h. let parts = split v h in let is = one.1 parts.0 parts.3 in let are = others.1 parts.1 parts.4 in
      (or_none first second is.0 are.0, parts.2 ∙ (ap (λ a. a ++ parts.1) is.1 ∙ ap (λ b. xs ++ b) are.1)),
)

-- none where the relation takes the empty list alone
empty_tells : {A : Type 0} (Are : List A → Type 0) → Are [] → ((v : List A) → Are v → v ≡ []) → Tells None [] Are
empty_tells Are is only = (λ _. is, λ v h. (refl, only v h))

-- ---- forms

form_checks : (form : Form) (text : List ℕ) → ((departure_of form text ≡ None) → HasForm form text) × (HasForm form text → departure_of form text ≡ None)
form_checks Action text = by_test (bytes_eq text (codes "*") || has_colon text)
  where
    by_test : (b : Bool) → ((if b then None else Some BadShape) ≡ None → IsTrue b) × (IsTrue b → (if b then None else Some BadShape) ≡ None)
    by_test true = (λ _. refl, λ _. refl)
    by_test false = (λ e. some_none BadShape e, λ e. let bad : false ≡ true = e in absurd (cc))
form_checks Resource text = by_test (has_variable text)
  where
    by_test : (b : Bool) → ((if b then Some Unsupported else None) ≡ None → b ≡ false) × (b ≡ false → (if b then Some Unsupported else None) ≡ None)
    by_test true = (λ e. some_none Unsupported e, λ e. let bad : true ≡ false = e in absurd (cc))
    by_test false = (λ _. refl, λ _. refl)
form_checks Caller text = by_test (is_caller text)
  where
    by_test : (b : Bool) → ((if b then None else Some BadShape) ≡ None → IsTrue b) × (IsTrue b → (if b then None else Some BadShape) ≡ None)
    by_test true = (λ _. refl, λ _. refl)
    by_test false = (λ e. some_none BadShape e, λ e. let bad : false ≡ true = e in absurd (cc))
form_checks Stranger text = (λ _. tt, λ _. refl)
form_checks (Value operator) text = by_tests (has_variable text) (is_value_text operator text) (value_decides operator text)
  where
    by_tests : (b t : Bool) → Decides t (IsValue operator text) → (value_departure b t ≡ None → (b ≡ false) × IsValue operator text) × ((b ≡ false) × IsValue operator text → value_departure b t ≡ None)
    by_tests true t decides = (λ e. some_none Unsupported e, λ h. let bad : true ≡ false = h.0 in absurd (cc))
    by_tests false true decides = (λ _. (refl, decides.0 refl), λ _. refl)
    by_tests false false decides = (λ e. some_none BadShape e, λ h. let bad : false ≡ true = decides.1 h.1 in absurd (cc))

-- ---- texts

given_tells : (form : Form) (path : List ℕ) (o : Option (List ℕ)) → Tells (given_fault form path o) (unwrap_or o []) (λ text. (o ≡ Some text) × HasForm form text)
given_tells form path None = (λ e. some_none (fault.BadShape path) e, λ v h. let bad : None ≡ Some v = h.0 in absurd (cc))
given_tells form path (Some text) =
    by_departure (departure_of form text) (form_checks form text).0 (λ v same has. (form_checks form text).1 (subst (HasForm form) (sym same) has))
  where
    by_departure : (o : Option Departure) → (o ≡ None → HasForm form text) → ((v : List ℕ) → text ≡ v → HasForm form v → o ≡ None)
        → Tells (option_map (λ departure. fault_at departure path) o) text (λ v. (Some text ≡ Some v) × HasForm form v)
    by_departure None has none = (λ _. (refl, has refl), λ v h. let same : text ≡ v = cc (h.0) in (refl, sym same))
    by_departure (Some departure) has none =
        (λ e. some_none (fault_at departure path) e, λ v h. let same : text ≡ v = cc (h.0) in some_none departure (none v same h.1))

pub text_tells : (form : Form) (path : List ℕ) (d : Data) → Tells (text_fault form path d) (text_of form d) (IsText form d)
text_tells form path d = given_tells form path (text_given form d)

texts_split : (form : Form) (d : Data) (ds : Items) (v : List (List ℕ)) → AreTexts form (item d ds) v → (y : List ℕ) × (ys : List (List ℕ)) × (v ≡ y ∷ ys) × IsText form d y × AreTexts form ds ys
texts_split form d ds [] h = absurd h
texts_split form d ds (text ∷ texts) h = (text, texts, refl, h.0, h.1)

texts_empty : (form : Form) (v : List (List ℕ)) → AreTexts form no_items v → v ≡ []
texts_empty form [] h = refl
texts_empty form (text ∷ texts) h = absurd h

items_tell : (form : Form) (path : List ℕ) (index : ℕ) (ds : Items) → Tells (items_fault form path index ds) (items_of form ds) (AreTexts form ds)
items_tell form path index no_items = empty_tells (AreTexts form no_items) tt (texts_empty form)
items_tell form path index (item d ds) =
    cons_tells (text_fault form (item_path path index) d) (items_fault form path (index + 1) ds) (text_of form d) (items_of form ds)
    (IsText form d) (AreTexts form ds) (AreTexts form (item d ds)) (texts_split form d ds) (λ a b. (a, b))
    (text_tells form (item_path path index) d) (items_tell form path (index + 1) ds)

one_tells : (form : Form) (path : List ℕ) (d : Data) → Tells (text_fault form path d) (text_of form d ∷ []) (IsOneText form d)
one_tells form path d = ((text_tells form path d).0, one)
  where
    one : (v : List (List ℕ)) → IsOneText form d v → (text_fault form path d ≡ None) × (v ≡ text_of form d ∷ [])
    one [] h = absurd h
    one (text ∷ []) h = let is = (text_tells form path d).1 text h in (is.0, ap (λ t. t ∷ []) is.1)
    one (text ∷ other ∷ texts) h = absurd h

list_tells : (b : Bool) (form : Form) (path : List ℕ) (ds : Items) → Tells (list_fault b form path ds) (items_of form ds) (λ texts. IsTrue b × AreTexts form ds texts)
list_tells true form path ds = (λ e. (refl, (items_tell form path 0 ds).0 e), λ v h. (items_tell form path 0 ds).1 v h.1)
list_tells false form path ds = (λ e. some_none (fault.BadShape path) e, λ v h. let bad : false ≡ true = h.0 in absurd (cc))

texts_tell : (form : Form) (path : List ℕ) (d : Data) → Tells (texts_fault form path d) (texts_of form d) (AreTextsOf form d)
texts_tell form path null = one_tells form path null
texts_tell form path (boolean b) = one_tells form path (boolean b)
texts_tell form path (number n) = one_tells form path (number n)
texts_tell form path (string s) = one_tells form path (string s)
texts_tell form path (array ds) = list_tells (takes_count form (items_len ds)) form path ds
texts_tell form path (object ms) = one_tells form path (object ms)

-- ---- names and small members

only_checks : (names : List (List ℕ)) (path : List ℕ) (ms : Members) → Checks (unknown_fault names path ms) (HasOnly names ms)
only_checks names path no_members = (λ _. tt, λ _. refl)
only_checks names path (member name d ms) = by_test (is_known names name) (only_checks names path ms)
  where
    by_test : (b : Bool) → Checks (unknown_fault names path ms) (HasOnly names ms) → Checks (name_fault path (if b then first_unknown names ms else Some name)) (IsTrue b × HasOnly names ms)
    by_test true later = (λ e. (refl, later.0 e), λ h. later.1 h.1)
    by_test false later = (λ e. some_none (fault.BadShape (member_path path name)) e, λ h. let bad : false ≡ true = h.0 in absurd (cc))

never : (path : List ℕ) → Checks (Some (fault.BadShape path)) ⊥
never path = (λ e. some_none (fault.BadShape path) e, λ h. absurd h)

optional_checks : (path : List ℕ) (o : Option Data) → Checks (optional_fault path o) (IsOptional o)
optional_checks path None = (λ _. tt, λ _. refl)
optional_checks path (Some null) = never path
optional_checks path (Some (boolean b)) = never path
optional_checks path (Some (number n)) = never path
optional_checks path (Some (string s)) = (λ _. tt, λ _. refl)
optional_checks path (Some (array ds)) = never path
optional_checks path (Some (object ms)) = never path

version_checks : (path : List ℕ) (o : Option Data) → Checks (version_fault path o) (IsVersion o)
version_checks path None = (λ _. tt, λ _. refl)
version_checks path (Some null) = never path
version_checks path (Some (boolean b)) = never path
version_checks path (Some (number n)) = never path
version_checks path (Some (string s)) = unless_true (is_version s) (fault.BadShape path)
version_checks path (Some (array ds)) = never path
version_checks path (Some (object ms)) = never path

nothing : {A : Type 0} (path : List ℕ) (value : A) → Tells (Some (fault.BadShape path)) value (λ _. ⊥)
nothing path value = (λ e. some_none (fault.BadShape path) e, λ v h. absurd h)

allows_alone : (s : List ℕ) (v : Bool) → s ≡ codes "Allow" → IsEffect (Some (string s)) v → v ≡ true
allows_alone s true allow h = refl
allows_alone s false allow h = let bad : codes "Allow" ≡ codes "Deny" = sym allow ∙ h in absurd (cc)

denies_alone : (s : List ℕ) (v : Bool) → (s ≢ codes "Allow") → IsEffect (Some (string s)) v → v ≡ false
denies_alone s true other h = absurd (other h)
denies_alone s false other h = refl

neither_stands : (s : List ℕ) (v : Bool) → (s ≢ codes "Allow") → (s ≢ codes "Deny") → IsEffect (Some (string s)) v → ⊥
neither_stands s true no_allow no_deny h = no_allow h
neither_stands s false no_allow no_deny h = no_deny h

effect_text : (s path : List ℕ) → Tells (effect_fault path (Some (string s))) (effect_of (Some (string s))) (IsEffect (Some (string s)))
effect_text s path = by_tests (bytes_eq s (codes "Allow")) (bytes_eq s (codes "Deny")) (bytes_eq-Decides s (codes "Allow")) (bytes_eq-Decides s (codes "Deny"))
  where
    by_tests : (a d : Bool) → Decides a (s ≡ codes "Allow") → Decides d (s ≡ codes "Deny") → Tells (if a || d then None else Some (fault.BadShape path)) a (IsEffect (Some (string s)))
    by_tests true d allows denies = (λ _. allows.0 refl, λ v h. (refl, allows_alone s v (allows.0 refl) h))
    by_tests false true allows denies = (λ _. denies.0 refl, λ v h. (refl, denies_alone s v (λ e. let bad : false ≡ true = allows.1 e in cc) h))
    by_tests false false allows denies = (
      λ e. some_none (fault.BadShape path) e,
      λ v h. absurd (neither_stands s v (λ e. let bad : false ≡ true = allows.1 e in cc) (λ e. let bad : false ≡ true = denies.1 e in cc) h),
    )

pub effect_tells : (path : List ℕ) (o : Option Data) → Tells (effect_fault path o) (effect_of o) (IsEffect o)
effect_tells path None = nothing path false
effect_tells path (Some null) = nothing path false
effect_tells path (Some (boolean b)) = nothing path false
effect_tells path (Some (number n)) = nothing path false
effect_tells path (Some (string s)) = effect_text s path
effect_tells path (Some (array ds)) = nothing path false
effect_tells path (Some (object ms)) = nothing path false

-- ---- Principal

kind_tells : (form : Option Form) (path : List ℕ) (d : Data) → IsPrincipalForm form → Tells (kind_fault form path d) (kind_named form d) (IsKind form d)
kind_tells None path d of_principal = nothing path []
kind_tells (Some Caller) path d of_principal = (
  λ e. (texts_of Caller d, (texts_tell Caller path d).0 e, refl),
  λ v h. let is = (texts_tell Caller path d).1 h.0 h.1 in (is.0, h.2 ∙ ap (filter_map named_of) is.1),
)
kind_tells (Some Stranger) path d of_principal = (
  λ e. (texts_of Stranger d, (texts_tell Stranger path d).0 e, refl),
  λ v h. let is = (texts_tell Stranger path d).1 h.0 h.1 in (is.0, h.2),
)
kind_tells (Some Action) path d of_principal = absurd of_principal
kind_tells (Some Resource) path d of_principal = absurd of_principal
kind_tells (Some (Value operator)) path d of_principal = absurd of_principal

kind_form_is : (name : List ℕ) → IsPrincipalForm (kind_form name)
kind_form_is name = by_tests (bytes_eq name (codes "AWS")) ((bytes_eq name (codes "Service") || bytes_eq name (codes "Federated")) || bytes_eq name (codes "CanonicalUser"))
  where
    by_tests : (a b : Bool) → IsPrincipalForm (if a then Some Caller else (if b then Some Stranger else None))
    by_tests true b = tt
    by_tests false true = tt
    by_tests false false = tt

kinds_split : (name : List ℕ) (d : Data) (ms : Members) (v : List Named) → AreKinds (member name d ms) v → (a : List Named) × (b : List Named) × (v ≡ a ++ b) × IsKind (kind_form name) d a × AreKinds ms b
kinds_split name d ms v h = (h.0, h.1, h.4, h.2, h.3)

kinds_tell : (path : List ℕ) (ms : Members) → Tells (kinds_fault path ms) (kinds_named ms) (AreKinds ms)
kinds_tell path no_members = (λ _. refl, λ v h. (refl, h))
kinds_tell path (member name d ms) =
    append_tells (kind_fault (kind_form name) (member_path path name) d) (kinds_fault path ms) (kind_named (kind_form name) d) (kinds_named ms)
    (IsKind (kind_form name) d) (AreKinds ms) (AreKinds (member name d ms)) (kinds_split name d ms) (λ a b. (kind_named (kind_form name) d, kinds_named ms, a, b, refl))
    (kind_tells (kind_form name) (member_path path name) d (kind_form_is name)) (kinds_tell path ms)

required_text : (s path : List ℕ) → Tells (required_fault path (Some (string s))) (Everyone ∷ []) (IsRequired (Some (string s)))
required_text s path = by_test (bytes_eq s (codes "*")) (bytes_eq-Decides s (codes "*"))
  where
    by_test : (b : Bool) → Decides b (s ≡ codes "*") → Tells (if b then None else Some (fault.BadShape path)) (Everyone ∷ []) (IsRequired (Some (string s)))
    by_test true star = (λ _. (star.0 refl, refl), λ v h. (refl, h.1))
    by_test false star = (λ e. some_none (fault.BadShape path) e, λ v h. let bad : false ≡ true = star.1 h.0 in absurd (cc))

guarded : {A : Type 0} (b : Bool) (path : List ℕ) (first : Option PolicyFault) (value : A) (Is : A → Type 0) → Tells first value Is → Tells (if b then first else Some (fault.BadShape path)) value (λ v. IsTrue b × Is v)
guarded true path first value Is tells = (λ e. (refl, tells.0 e), λ v h. tells.1 v h.1)
guarded false path first value Is tells = (λ e. some_none (fault.BadShape path) e, λ v h. let bad : false ≡ true = h.0 in absurd (cc))

required_tells : (path : List ℕ) (o : Option Data) → Tells (required_fault path o) (required_named o) (IsRequired o)
required_tells path None = nothing path []
required_tells path (Some null) = nothing path []
required_tells path (Some (boolean b)) = nothing path []
required_tells path (Some (number n)) = nothing path []
required_tells path (Some (string s)) = required_text s path
required_tells path (Some (array ds)) = nothing path []
required_tells path (Some (object ms)) = guarded (has_members ms) path (kinds_fault path ms) (kinds_named ms) (AreKinds ms) (kinds_tell path ms)

principal_tells : (kind : PolicyKind) (path : List ℕ) (o : Option Data) → Tells (principal_fault kind path o) (principal_named kind o) (IsPrincipalOf kind o)
principal_tells Key path o = required_tells path o
principal_tells Identity path None = (λ _. refl, λ v h. (refl, h))
principal_tells Identity path (Some d) = nothing path []

-- ---- pairs

abbrev IsPair : Form → Option Data → Option Data → List (List ℕ) × List (List ℕ) → Type 0
IsPair form o n pair = ArePair form o n pair.0 pair.1

pair_tells : (form : Form) (path : List ℕ) (o : Option Data) (not_path : List ℕ) (n : Option Data) → Tells (pair_fault form path o not_path n) (given_texts form o, given_texts form n) (IsPair form o n)
pair_tells form path None not_path None = nothing path ([], [])
pair_tells form path (Some d) not_path None =
    (λ e. ((texts_tell form path d).0 e, refl), λ v h. let is = (texts_tell form path d).1 v.0 h.0 in (is.0, pair_same v (texts_of form d) [] is.1 h.1))
pair_tells form path None not_path (Some e) =
    (λ f. (refl, (texts_tell form not_path e).0 f), λ v h. let is = (texts_tell form not_path e).1 v.1 h.1 in (is.0, pair_same v [] (texts_of form e) h.0 is.1))
pair_tells form path (Some d) not_path (Some e) = nothing path (texts_of form d, texts_of form e)

-- ---- Condition

condition_tells : (operator : QualifiedOperator) (key path : List ℕ) (d : Data) → Tells (texts_fault (Value operator.operator) path d) (condition_of operator key d) (IsCondition operator key d)
condition_tells operator key path d = (
  λ e. (refl, refl, refl, refl, (texts_tell (Value operator.operator) path d).0 e),
  λ v h. let is = (texts_tell (Value operator.operator) path d).1 v.values h.4 in (is.0, condition_same v (condition_of operator key d) h.0 h.1 h.2 h.3 is.1),
)

keys_split : (operator : QualifiedOperator) (key : List ℕ) (d : Data) (ms : Members) (v : List Condition) → AreKeys operator (member key d ms) v
    → (y : Condition) × (ys : List Condition) × (v ≡ y ∷ ys) × IsCondition operator key d y × AreKeys operator ms ys
keys_split operator key d ms [] h = absurd h
keys_split operator key d ms (condition ∷ conditions) h = (condition, conditions, refl, h.0, h.1)

keys_empty : (operator : QualifiedOperator) (v : List Condition) → AreKeys operator no_members v → v ≡ []
keys_empty operator [] h = refl
keys_empty operator (condition ∷ conditions) h = absurd h

keys_tell : (operator : QualifiedOperator) (path : List ℕ) (ms : Members) → Tells (keys_fault operator path ms) (keys_of operator ms) (AreKeys operator ms)
keys_tell operator path no_members = empty_tells (AreKeys operator no_members) tt (keys_empty operator)
keys_tell operator path (member key d ms) =
    cons_tells (texts_fault (Value operator.operator) (member_path path key) d) (keys_fault operator path ms) (condition_of operator key d) (keys_of operator ms)
    (IsCondition operator key d) (AreKeys operator ms) (AreKeys operator (member key d ms)) (keys_split operator key d ms) (λ a b. (a, b))
    (condition_tells operator key (member_path path key) d) (keys_tell operator path ms)

under_tells : (operator : QualifiedOperator) (path : List ℕ) (d : Data) → Tells (under_fault operator path d) (under_of operator d) (AreUnder operator d)
under_tells operator path null = nothing path []
under_tells operator path (boolean b) = nothing path []
under_tells operator path (number n) = nothing path []
under_tells operator path (string s) = nothing path []
under_tells operator path (array ds) = nothing path []
under_tells operator path (object ms) = keys_tell operator path ms

-- what a member of Condition makes, by the operator that its name is
abbrev IsNamedOperator : List ℕ → Data → List Condition → Type 0
IsNamedOperator name d conditions = (operator : QualifiedOperator) × (is_unserved name ≡ false) × IsOperatorText name operator × AreUnder operator d conditions

operator_tells : (name path : List ℕ) (d : Data) → Tells (operator_fault (named_operator name) path d) (operator_conditions (named_operator name) d) (IsNamedOperator name d)
unfolding named_operator
operator_tells name path d = by_parts (is_unserved name) refl (operator_of name) (operator_reads name)
  where
    by_parts : (b : Bool) → is_unserved name ≡ b → (o : Option QualifiedOperator) → MatchOption o ((x : QualifiedOperator) → ¬ (IsOperatorText name x)) (IsOperatorText name)
        → Tells (operator_fault (operator_or b o) path d) (operator_conditions (operator_or b o) d) (IsNamedOperator name d)
    by_parts true b_is o reads = (λ e. some_none (fault.Unsupported path) e, λ v h. let bad : false ≡ true = sym h.1 ∙ b_is in absurd (cc))
    by_parts false b_is None none = (λ e. some_none (fault.BadShape path) e, λ v h. absurd (none h.0 h.2))
    by_parts false b_is (Some operator) is = (
      λ e. (operator, b_is, is, (under_tells operator path d).0 e),
      λ v h. let same : h.0 ≡ operator = one_operator name h.0 operator h.2 is in (under_tells operator path d).1 v (subst (λ x. AreUnder x d v) same h.3),
    )

operators_split : (name : List ℕ) (d : Data) (ms : Members) (v : List Condition) → AreOperators (member name d ms) v
    → (a : List Condition) × (b : List Condition) × (v ≡ a ++ b) × IsNamedOperator name d a × AreOperators ms b
operators_split name d ms v h = (h.1, h.2, h.7, (h.0, h.3, h.4, h.5), h.6)

operators_tell : (path : List ℕ) (ms : Members) → Tells (operators_fault path ms) (operators_of ms) (AreOperators ms)
operators_tell path no_members = (λ _. refl, λ v h. (refl, h))
operators_tell path (member name d ms) =
    append_tells (operator_fault (named_operator name) (member_path path name) d) (operators_fault path ms) (operator_conditions (named_operator name) d) (operators_of ms)
    (IsNamedOperator name d) (AreOperators ms) (AreOperators (member name d ms)) (operators_split name d ms)
    (λ a b. (a.0, operator_conditions (named_operator name) d, operators_of ms, a.1, a.2, a.3, b, refl))
    (operator_tells name (member_path path name) d) (operators_tell path ms)

conditions_tell : (path : List ℕ) (o : Option Data) → Tells (condition_fault path o) (conditions_of o) (AreConditions o)
conditions_tell path None = (λ _. refl, λ v h. (refl, h))
conditions_tell path (Some null) = nothing path []
conditions_tell path (Some (boolean b)) = nothing path []
conditions_tell path (Some (number n)) = nothing path []
conditions_tell path (Some (string s)) = nothing path []
conditions_tell path (Some (array ds)) = nothing path []
conditions_tell path (Some (object ms)) = operators_tell path ms

-- ---- statements

not_principal_checks : (path : List ℕ) (o : Option Data) → Checks (not_principal_fault path o) (o ≡ None)
not_principal_checks path None = (λ _. refl, λ _. refl)
not_principal_checks path (Some d) = (λ e. some_none (fault.Unsupported path) e, λ e. some_none d e)

names_check : (path : List ℕ) (d : Data) → Checks (names_fault path d) (IsStatementObject d)
names_check path null = never path
names_check path (boolean b) = never path
names_check path (number n) = never path
names_check path (string s) = never path
names_check path (array ds) = never path
names_check path (object ms) = (
  λ e. ((not_principal_checks (member_path path (codes "NotPrincipal")) (get (codes "NotPrincipal") (object ms))).0 (or_left _ _ e), (only_checks statement_names path ms).0 (or_right _ _ e)),
  λ h. or_none _ _ ((not_principal_checks (member_path path (codes "NotPrincipal")) (get (codes "NotPrincipal") (object ms))).1 h.0) ((only_checks statement_names path ms).1 h.1),
)

module _ (kind : PolicyKind) where
  module _ (path : List ℕ) (d : Data) where
    sid_part : Checks (optional_fault (member_path path (codes "Sid")) (get (codes "Sid") d)) (IsOptional (get (codes "Sid") d))
    sid_part = optional_checks (member_path path (codes "Sid")) (get (codes "Sid") d)

    effect_part : Tells (effect_fault (member_path path (codes "Effect")) (get (codes "Effect") d)) (effect_of (get (codes "Effect") d)) (IsEffect (get (codes "Effect") d))
    effect_part = effect_tells (member_path path (codes "Effect")) (get (codes "Effect") d)

    principal_part : Tells (principal_fault kind (member_path path (codes "Principal")) (get (codes "Principal") d)) (principal_named kind (get (codes "Principal") d)) (IsPrincipalOf kind (get (codes "Principal") d))
    principal_part = principal_tells kind (member_path path (codes "Principal")) (get (codes "Principal") d)

    action_part : Tells (pair_fault Action (member_path path (codes "Action")) (get (codes "Action") d) (member_path path (codes "NotAction")) (get (codes "NotAction") d)) (given_texts Action (get (codes "Action") d), given_texts Action (get (codes "NotAction") d)) (IsPair Action (get (codes "Action") d) (get (codes "NotAction") d))
    action_part = pair_tells Action (member_path path (codes "Action")) (get (codes "Action") d) (member_path path (codes "NotAction")) (get (codes "NotAction") d)

    resource_part : Tells (pair_fault Resource (member_path path (codes "Resource")) (get (codes "Resource") d) (member_path path (codes "NotResource")) (get (codes "NotResource") d)) (given_texts Resource (get (codes "Resource") d), given_texts Resource (get (codes "NotResource") d)) (IsPair Resource (get (codes "Resource") d) (get (codes "NotResource") d))
    resource_part = pair_tells Resource (member_path path (codes "Resource")) (get (codes "Resource") d) (member_path path (codes "NotResource")) (get (codes "NotResource") d)

    condition_part : Tells (condition_fault (member_path path (codes "Condition")) (get (codes "Condition") d)) (conditions_of (get (codes "Condition") d)) (AreConditions (get (codes "Condition") d))
    condition_part = conditions_tell (member_path path (codes "Condition")) (get (codes "Condition") d)

    statement_some : statement_fault kind path d ≡ None → IsStatement kind d (statement_of kind d)
    statement_some e =
        let e1 = or_right _ _ e in
        let e2 = or_right _ _ e1 in
        let e3 = or_right _ _ e2 in
        let e4 = or_right _ _ e3 in
        let e5 = or_right _ _ e4 in
        record {
          names = (names_check path d).0 (or_left _ _ e);
          sid = sid_part.0 (or_left _ _ e1);
          effect = effect_part.0 (or_left _ _ e2);
          principal = principal_part.0 (or_left _ _ e3);
          action = action_part.0 (or_left _ _ e4);
          resource = resource_part.0 (or_left _ _ e5);
          condition = condition_part.0 (or_right _ _ e5);
        }

    statement_is : (s : Statement) → IsStatement kind d s → (statement_fault kind path d ≡ None) × (s ≡ statement_of kind d)
    statement_is s h =
        let effect = effect_part.1 s.allow h.effect in
        let principal = principal_part.1 s.principals h.principal in
        let action = action_part.1 (s.actions, s.not_actions) h.action in
        let resource = resource_part.1 (s.resources, s.not_resources) h.resource in
        let condition = condition_part.1 s.conditions h.condition in (
          or_none _ _ ((names_check path d).1 h.names)
              (or_none _ _ (sid_part.1 h.sid) (or_none _ _ effect.0 (or_none _ _ principal.0 (or_none _ _ action.0 (or_none _ _ resource.0 condition.0))))),
          statement_same s (statement_of kind d) effect.1 principal.1 (ap (λ p. p.0) action.1) (ap (λ p. p.1) action.1) (ap (λ p. p.0) resource.1) (ap (λ p. p.1) resource.1) condition.1,
        )

    statement_tells : Tells (statement_fault kind path d) (statement_of kind d) (IsStatement kind d)
    statement_tells = (statement_some, statement_is)

  statements_split : (d : Data) (ds : Items) (v : List Statement) → AreStatements kind (item d ds) v → (y : Statement) × (ys : List Statement) × (v ≡ y ∷ ys) × IsStatement kind d y × AreStatements kind ds ys
  statements_split d ds [] h = absurd h
  statements_split d ds (statement ∷ others) h = (statement, others, refl, h.0, h.1)

  statements_empty : (v : List Statement) → AreStatements kind no_items v → v ≡ []
  statements_empty [] h = refl
  statements_empty (statement ∷ others) h = absurd h

  statements_tell : (path : List ℕ) (index : ℕ) (ds : Items) → Tells (statements.items_fault kind path index ds) (statements.items_of kind ds) (AreStatements kind ds)
  statements_tell path index no_items = empty_tells (AreStatements kind no_items) tt statements_empty
  statements_tell path index (item d ds) =
      cons_tells (statement_fault kind (item_path path index) d) (statements.items_fault kind path (index + 1) ds) (statement_of kind d) (statements.items_of kind ds)
      (IsStatement kind d) (AreStatements kind ds) (AreStatements kind (item d ds)) (statements_split d ds) (λ a b. (a, b))
      (statement_tells (item_path path index) d) (statements_tell path (index + 1) ds)

  one_statement_tells : (path : List ℕ) (d : Data) → Tells (statement_fault kind path d) (statement_of kind d ∷ []) (IsOneStatement kind d)
  one_statement_tells path d = ((statement_tells path d).0, one)
    where
      one : (v : List Statement) → IsOneStatement kind d v → (statement_fault kind path d ≡ None) × (v ≡ statement_of kind d ∷ [])
      one [] h = absurd h
      one (statement ∷ []) h = let is = (statement_tells path d).1 statement h in (is.0, ap (λ s. s ∷ []) is.1)
      one (statement ∷ other ∷ more) h = absurd h

  part_tells : (path : List ℕ) (o : Option Data) → Tells (statement_part_fault kind path o) (statements_in kind o) (AreStatementsOf kind o)
  part_tells path None = nothing path []
  part_tells path (Some null) = nothing path []
  part_tells path (Some (boolean b)) = nothing path []
  part_tells path (Some (number n)) = nothing path []
  part_tells path (Some (string s)) = nothing path []
  part_tells path (Some (array ds)) = guarded (has_items ds) path (statements.items_fault kind path 0 ds) (statements.items_of kind ds) (AreStatements kind ds) (statements_tell path 0 ds)
  part_tells path (Some (object ms)) = one_statement_tells path (object ms)

  document_names_check : (d : Data) → Checks (document_names_fault d) (IsDocumentObject d)
  document_names_check null = never []
  document_names_check (boolean b) = never []
  document_names_check (number n) = never []
  document_names_check (string s) = never []
  document_names_check (array ds) = never []
  document_names_check (object ms) = only_checks document_names [] ms

  module _ (d : Data) where
    version_part : Checks (version_fault (member_path [] (codes "Version")) (get (codes "Version") d)) (IsVersion (get (codes "Version") d))
    version_part = version_checks (member_path [] (codes "Version")) (get (codes "Version") d)

    id_part : Checks (optional_fault (member_path [] (codes "Id")) (get (codes "Id") d)) (IsOptional (get (codes "Id") d))
    id_part = optional_checks (member_path [] (codes "Id")) (get (codes "Id") d)

    statements_part : Tells (statement_part_fault kind (member_path [] (codes "Statement")) (get (codes "Statement") d)) (statements_in kind (get (codes "Statement") d)) (AreStatementsOf kind (get (codes "Statement") d))
    statements_part = part_tells (member_path [] (codes "Statement")) (get (codes "Statement") d)

    policy_some : option_or (head_fault d) (statement_part_fault kind (member_path [] (codes "Statement")) (get (codes "Statement") d)) ≡ None → IsPolicyOf kind d (statements_in kind (get (codes "Statement") d))
    policy_some e =
        let head = or_left _ _ e in
        let e1 = or_right _ _ head in
        record {
          names = (document_names_check d).0 (or_left _ _ head);
          version = version_part.0 (or_left _ _ e1);
          id = id_part.0 (or_right _ _ e1);
          parts = statements_part.0 (or_right _ _ e);
        }

    policy_is : (s : List Statement) → IsPolicyOf kind d s → (option_or (head_fault d) (statement_part_fault kind (member_path [] (codes "Statement")) (get (codes "Statement") d)) ≡ None) × (s ≡ statements_in kind (get (codes "Statement") d))
    policy_is s h =
        let parts = statements_part.1 s h.parts in
        (or_none _ _ (or_none _ _ ((document_names_check d).1 h.names) (or_none _ _ (version_part.1 h.version) (id_part.1 h.id))) parts.0, parts.1)

    -- a value is a policy's exactly where it has no first fault, and then its statements are determined
    pub policy_tells : (first_fault kind d ≡ None → IsPolicyOf kind d (statements_of kind d)) × ((s : List Statement) → IsPolicyOf kind d s → (first_fault kind d ≡ None) × (s ≡ statements_of kind d))
    unfolding first_fault statements_of
    policy_tells = (policy_some, policy_is)
