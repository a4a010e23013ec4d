-- What is asked is of an operation, an object, and values that are read and valid.
use Rattle.std.proofs.Common.{◌≡◌, List, [], ◌∷◌, drop, Bool, true, false, Option, Some, None, Ok, Err, refl, sym, subst, if◌then◌else◌}
use Rattle.std.specs.Option.{option_and_then, option_map}
use Rattle.serde_json.specs.Data.{Data}
use Rattle.serde_json.specs.Find.{get}
use Rattle.kms_json.specs.declared.given.Given.{Given}
use Rattle.kms_json.specs.declared.asks.AskBody.{AskBody}
use Rattle.kms_json.specs.declared.operations.Operation.{Operation}
use Rattle.kms_json.specs.declared.refusals.Refusal.{Refusal}
use Rattle.kms_json.specs.declared.refusals.Refusal.TheVariants as refusal
use Rattle.kms_json.specs.Operations.{fields_of}
use Rattle.kms_json.specs.Fields.{FieldRow, value_given, values_of, first_invalid, refusal_at, is_valid}
use Rattle.kms_json.specs.Building.{first_of}
use Rattle.kms_json.specs.Asks.{body_of, asked_unless, asked_of_values}

-- ---- what is asked is of an operation, an object and valid values

pub record IsRead (op : Operation) (d : Data) (body : AskBody) : Type 0 where
  pub values : List Given
  pub read : values_of (fields_of op) d ≡ Some values
  pub valid : first_invalid (fields_of op) d values ≡ None
  pub made : body_of op d ≡ body

module _ (op : Operation) (d : Data) (body : AskBody) where
  of_fault : (values : List Given) → values_of (fields_of op) d ≡ Some values → (f : Option Refusal) → first_invalid (fields_of op) d values ≡ f
      → asked_unless f (body_of op d) ≡ Ok body → IsRead op d body
  of_fault values read (Some why) valid e = cc
  of_fault values read None valid e = record { values = values; read = read; valid = valid; made = cc }

  of_values : (o : Option (List Given)) → values_of (fields_of op) d ≡ o → asked_of_values op d o ≡ Ok body → IsRead op d body
  of_values None read e = cc
  of_values (Some values) read e = of_fault values read (first_invalid (fields_of op) d values) refl e

  pub of_object : (b : Bool) → (if b then asked_of_values op d (values_of (fields_of op) d) else Err refusal.Serialization) ≡ Ok body → IsRead op d body
  of_object true e = of_values (values_of (fields_of op) d) refl e
  of_object false e = cc

-- ---- each value is read and valid

abbrev pub IsKept : FieldRow → Data → Given → Type 0
IsKept row d value = (value_given row.kind (get row.name d) ≡ Some value) × (is_valid row d value ≡ true)

abbrev pub AreKept : List FieldRow → Data → List Given → Type 0
AreKept [] d values = Unit {0}
AreKept (row ∷ rows) d values = IsKept row d (first_of values) × AreKept rows d (drop 1 values)

module _ (row : FieldRow) (rows : List FieldRow) (d : Data) (value : Given) (values : List Given) where
  first_valid : (b : Bool) → is_valid row d value ≡ b → (if b then first_invalid rows d values else Some (refusal_at row value)) ≡ None → is_valid row d value ≡ true
  first_valid true is e = is
  first_valid false is e = cc

  rest_valid : (b : Bool) → (if b then first_invalid rows d values else Some (refusal_at row value)) ≡ None → first_invalid rows d values ≡ None
  rest_valid true e = e
  rest_valid false e = cc

module _ (row : FieldRow) (rows : List FieldRow) (d : Data) (values : List Given) where
  kept_more : (first : Option Given) (rest : Option (List Given)) → value_given row.kind (get row.name d) ≡ first
      → ((vs : List Given) → rest ≡ Some vs → first_invalid rows d vs ≡ None → AreKept rows d vs)
      → option_and_then (λ v. option_map (λ vs. v ∷ vs) rest) first ≡ Some values → first_invalid (row ∷ rows) d values ≡ None → AreKept (row ∷ rows) d values
  kept_more None rest is later e valid = cc
  kept_more (Some v) None is later e valid = cc
  kept_more (Some v) (Some vs) is later e valid =
      let all : v ∷ vs ≡ values = cc in
      let valid_all : (if is_valid row d v then first_invalid rows d vs else Some (refusal_at row v)) ≡ None = subst (λ (l : List Given). first_invalid (row ∷ rows) d l ≡ None) (sym all) valid in
      subst (AreKept (row ∷ rows) d) all
      ((is, first_valid row rows d v vs (is_valid row d v) refl valid_all), later vs refl (rest_valid row rows d v vs (is_valid row d v) valid_all))

pub are_kept : (rows : List FieldRow) (d : Data) (values : List Given) → values_of rows d ≡ Some values → first_invalid rows d values ≡ None → AreKept rows d values
are_kept [] d values read valid = tt
are_kept (row ∷ rows) d values read valid =
    kept_more row rows d values (value_given row.kind (get row.name d)) (values_of rows d) refl (are_kept rows d) read valid
