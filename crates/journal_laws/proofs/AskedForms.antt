-- The forms of what a request asks that an entry repeats: the texts of tags, the keys of tags, and the operations and the name of a grant.
use Rattle.std.proofs.Common.{◌≡◌, ℕ, ◌||◌, List, [], ◌∷◌, length, Bool, true, false, Option, Some, None, Ok, Err, refl, sym, ◌∙◌, subst, if◌then◌else◌, nat_le, unwrap_or}
use Rattle.std.specs.Prelude.{filter, cond}
use Rattle.std.specs.List.{list_any}
use Rattle.std.specs.Option.{option_and_then, option_map}
use Rattle.std.specs.Str.{bytes_eq}
use Rattle.std.proofs.lemmas.Bool.{and_parts}
use Rattle.serde_json.specs.Data.{Data}
use Rattle.serde_json.specs.Find.{get}
use Rattle.kms_names.specs.declared.operations.GrantOp.{GrantOp}
use Rattle.kms_names.specs.GrantOps.{all_grant_ops, grant_op_name, contains, members, is_named}
use Rattle.kms_names.proofs.OperationFacts.{those_have}
use Rattle.resource_tags.specs.declared.tags.Tag.{Tag}
use Rattle.kms_json.specs.declared.asks.AskBody.{AskBody}
use Rattle.kms_json.specs.declared.asks.AskBody.TheVariants as ask
use Rattle.kms_json.specs.declared.asks.Changing.{Changing}
use Rattle.kms_json.specs.declared.asks.Changing.TheVariants as changing
use Rattle.kms_json.specs.declared.given.Given.{Given}
use Rattle.kms_json.specs.declared.given.Given.TheVariants as given
use Rattle.kms_json.specs.declared.operations.Operation.{Operation}
use Rattle.kms_json.specs.declared.operations.Operation.TheVariants as op
use Rattle.kms_json.specs.declared.refusals.Refusal.{Refusal}
use Rattle.kms_json.specs.declared.refusals.Refusal.TheVariants as refusal
use Rattle.kms_json.specs.Given.{is_absent, text_if, text_in, texts_in, tags_if, tags_in, operations_named}
use Rattle.kms_json.specs.Fields.{FieldRow, value_given, values_of, given_by, first_invalid, refusal_at, is_valid, is_grant_name, is_operation_name, are_operation_names, are_tags, are_tag_keys}
use Rattle.kms_json.specs.Operations.{operation_named, fields_of, built}
use Rattle.kms_json.specs.Asks.{body_data, body_of, is_object, asked_unless, asked_of_values, asked_by, asked_where, asked}
use Rattle.account_core.specs.Fitting.{is_some_op, is_name}

-- what has a form
abbrev pub IsFormed : Changing → Type 0
IsFormed (changing.CreateKey x) = are_tags (Some x.tags) ≡ true
IsFormed (changing.TagResource key_id tags) = are_tags (Some tags) ≡ true
IsFormed (changing.UntagResource key_id keys) = are_tag_keys keys ≡ true
IsFormed (changing.CreateGrant x) = (is_some_op (members x.operations) ≡ true) × (is_name x.name ≡ true)
IsFormed _ = Unit {0}

abbrev pub HasForms : AskBody → Type 0
HasForms (ask.Change body) = IsFormed body
HasForms (ask.Read body) = Unit {0}

-- ---- each field is read and valid

pub record IsGiven (row : FieldRow) (d : Data) : Type 0 where
  pub value : Given
  pub read : value_given row.kind (get row.name d) ≡ Some value
  pub valid : is_valid row d value ≡ true

abbrev pub AreGiven : List FieldRow → Data → Type 0
AreGiven [] d = Unit {0}
AreGiven (row ∷ rows) d = IsGiven row d × AreGiven rows d

module _ (row : FieldRow) (rows : List FieldRow) (d : Data) where
  one_given : (v : Given) (vs : List Given) (b : Bool) → is_valid row d v ≡ b → value_given row.kind (get row.name d) ≡ Some v
      → (first_invalid rows d vs ≡ None → AreGiven rows d) → (if b then first_invalid rows d vs else Some (refusal_at row v)) ≡ None → AreGiven (row ∷ rows) d
  one_given v vs true is read later e = (record { value = v; read = read; valid = is }, later e)
  one_given v vs false is read later e = cc

  given_more : (values : List Given) (first : Option Given) (rest : Option (List Given)) → value_given row.kind (get row.name d) ≡ first
      → ((vs : List Given) → rest ≡ Some vs → first_invalid rows d vs ≡ None → AreGiven rows d)
      → option_and_then (λ v. option_map (λ vs. v ∷ vs) rest) first ≡ Some values → first_invalid (row ∷ rows) d values ≡ None → AreGiven (row ∷ rows) d
  given_more values None rest is later e valid = cc
  given_more values (Some v) None is later e valid = cc
  given_more values (Some v) (Some vs) is later e valid =
      let all : v ∷ vs ≡ values = cc in
      one_given v vs (is_valid row d v) refl is (later vs refl) (subst (λ (l : List Given). first_invalid (row ∷ rows) d l ≡ None) (sym all) valid)

are_given : (rows : List FieldRow) (d : Data) (values : List Given) → values_of rows d ≡ Some values → first_invalid rows d values ≡ None → AreGiven rows d
are_given [] d values read valid = tt
are_given (row ∷ rows) d values read valid =
    given_more row rows d values (value_given row.kind (get row.name d)) (values_of rows d) refl (are_given rows d) read valid

-- ---- tags

there : (absent fit : Bool) → (if absent then false else fit) ≡ true → fit ≡ true
there true fit e = cc
there false fit e = e

tags_are : (o : Option (List Tag)) → are_tags o ≡ true → are_tags (Some (unwrap_or o [])) ≡ true
tags_are None e = cc
tags_are (Some tags) e = e

tags_there : (v : Given) → (if is_absent v then false else are_tags (tags_if v)) ≡ true → are_tags (Some (tags_in v)) ≡ true
tags_there v e = tags_are (tags_if v) (there (is_absent v) _ e)

tags_within : (v : Given) → (if is_absent v then true else are_tags (tags_if v)) ≡ true → are_tags (Some (tags_in v)) ≡ true
tags_within given.Absent e = refl
tags_within v e = tags_are (tags_if v) e

-- ---- a grant's operations

or_left : (a b : Bool) → a ≡ true → a || b ≡ true
or_left true b e = refl
or_left false b e = cc

or_right : (a b : Bool) → b ≡ true → a || b ≡ true
or_right true b e = refl
or_right false b e = e

some_kept : (test : GrantOp → Bool) (ops : List GrantOp) → list_any test ops ≡ true → is_some_op (filter test ops) ≡ true
some_kept test [] e = cc
some_kept test (o ∷ ops) e = by_test (test o) (some_kept test ops) e
  where
    by_test : (b : Bool) → (list_any test ops ≡ true → is_some_op (filter test ops) ≡ true) → b || list_any test ops ≡ true → is_some_op (cond b (o ∷ filter test ops) (filter test ops)) ≡ true
    by_test true later is = refl
    by_test false later is = later is

some_weaker : (p q : GrantOp → Bool) (ops : List GrantOp) → ((o : GrantOp) → p o ≡ true → q o ≡ true) → list_any p ops ≡ true → list_any q ops ≡ true
some_weaker p q [] each e = cc
some_weaker p q (o ∷ ops) each e = by_test (p o) refl (some_weaker p q ops each) e
  where
    by_test : (b : Bool) → p o ≡ b → (list_any p ops ≡ true → list_any q ops ≡ true) → b || list_any p ops ≡ true → q o || list_any q ops ≡ true
    by_test true is later t = or_left (q o) (list_any q ops) (each o is)
    by_test false is later t = or_right (q o) (list_any q ops) (later t)

operations_some : (names : List (List ℕ)) → are_operation_names names ≡ true → is_some_op (members (operations_named names)) ≡ true
operations_some [] e = cc
operations_some (name ∷ names) e =
    let all = and_parts (nat_le 1 (length (name ∷ names))) _ e in
    let first = and_parts (is_operation_name name) _ all.1 in
    let test : GrantOp → Bool = is_named (name ∷ names) in
    some_kept (contains (operations_named (name ∷ names))) all_grant_ops
    (some_weaker (λ (o : GrantOp). bytes_eq name (grant_op_name o)) (contains (operations_named (name ∷ names))) all_grant_ops
    (λ o is. those_have test o ∙ or_left (bytes_eq name (grant_op_name o)) _ is) first.0)

operations_there : (v : Given) → (if is_absent v then false else are_operation_names (texts_in v)) ≡ true → is_some_op (members (operations_named (texts_in v))) ≡ true
operations_there v e = operations_some (texts_in v) (there (is_absent v) _ e)

-- and its name
name_within : (v : Given) → (if is_absent v then true else is_grant_name (text_in v)) ≡ true → is_name (text_if v) ≡ true
name_within (given.Text text) e = e
name_within v e = refl

-- ---- by the operation

-- what is read for a field is what the body gives it
at_value : (P : Given → Type 0) (o : Option Given) (v : Given) → o ≡ Some v → P v → P (unwrap_or o given.Absent)
at_value P o v e p = subst (λ (q : Option Given). P (unwrap_or q given.Absent)) (sym e) p

formed : (operation : Operation) (d : Data) → AreGiven (fields_of operation) d → HasForms (built operation (given_by (fields_of operation) d))
formed op.CreateKey d are =
    let tags = are.1.1.1.1.1.1.1.1.0 in
    at_value (λ v. are_tags (Some (tags_in v)) ≡ true) _ tags.value tags.read (tags_within tags.value tags.valid)
formed op.TagResource d are =
    let tags = are.1.0 in
    at_value (λ v. are_tags (Some (tags_in v)) ≡ true) _ tags.value tags.read (tags_there tags.value tags.valid)
formed op.UntagResource d are =
    let keys = are.1.0 in
    at_value (λ v. are_tag_keys (texts_in v) ≡ true) _ keys.value keys.read (there (is_absent keys.value) _ keys.valid)
formed op.CreateGrant d are =
    let operations = are.1.1.1.0 in
    let name = are.1.1.1.1.1.1.0 in (
      at_value (λ v. is_some_op (members (operations_named (texts_in v))) ≡ true) _ operations.value operations.read (operations_there operations.value operations.valid),
      at_value (λ v. is_name (text_if v) ≡ true) _ name.value name.read (name_within name.value name.valid),
    )
formed _ d are = tt

-- ---- a request

-- the operation of a request, the value of its body, and what these make of each field
pub record IsAsked (text : List ℕ) (body : AskBody) : Type 0 where
  pub operation : Operation
  pub value : Data
  pub is : body_data text ≡ Some value
  pub given : AreGiven (fields_of operation) value
  pub made : built operation (given_by (fields_of operation) value) ≡ body

ok_same : (a b : AskBody) → asked_unless None a ≡ Ok b → a ≡ b
ok_same a b e = cc

module _ (text : List ℕ) (operation : Operation) (d : Data) (body : AskBody) (is : body_data text ≡ Some d) where
  of_fault : (values : List Given) → values_of (fields_of operation) d ≡ Some values → (f : Option Refusal) → first_invalid (fields_of operation) d values ≡ f
      → asked_unless f (body_of operation d) ≡ Ok body → IsAsked text body
  of_fault values read (Some why) valid e = cc
  of_fault values read None valid e = record {
    operation = operation;
    value = d;
    is = is;
    given = are_given (fields_of operation) d values read valid;
    made = ok_same (body_of operation d) body e;
  }

  of_values : (o : Option (List Given)) → values_of (fields_of operation) d ≡ o → asked_of_values operation d o ≡ Ok body → IsAsked text body
  of_values None read e = cc
  of_values (Some values) read e = of_fault values read (first_invalid (fields_of operation) d values) refl e

  of_object : (b : Bool) → (if b then asked_of_values operation d (values_of (fields_of operation) d) else Err refusal.Serialization) ≡ Ok body → IsAsked text body
  of_object true e = of_values (values_of (fields_of operation) d) refl e
  of_object false e = cc

of_data : (text : List ℕ) (operation : Operation) (o : Option Data) (body : AskBody) → body_data text ≡ o → asked_by operation o ≡ Ok body → IsAsked text body
of_data text operation None body is e = cc
of_data text operation (Some d) body is e = of_object text operation d body is (is_object d) e

of_name : (o : Option Operation) (text : List ℕ) (body : AskBody) → asked_where o text ≡ Ok body → IsAsked text body
of_name None text body e = cc
of_name (Some operation) text body e = of_data text operation (body_data text) body refl e

pub asked_is : (target text : List ℕ) (body : AskBody) → asked target text ≡ Ok body → IsAsked text body
asked_is target text body e = of_name (operation_named target) text body e

-- what is asked has its forms
pub asked_formed : (target text : List ℕ) (body : AskBody) → asked target text ≡ Ok body → HasForms body
asked_formed target text body e =
    let by = asked_is target text body e in
    subst HasForms by.made (formed by.operation by.value by.given)
