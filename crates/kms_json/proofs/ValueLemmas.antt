-- The values of fields in their order are what the body gives by the fields' names.
use Rattle.std.proofs.Common.{◌≡◌, ℕ, zero, suc, List, [], ◌∷◌, length, drop, Option, Some, None, unwrap_or, refl, sym, ap, ◌∙◌, if◌then◌else◌}
use Rattle.std.specs.Option.{option_map, option_and_then}
use Rattle.std.specs.Str.{bytes_eq}
use Rattle.serde_json.specs.Data.{Data}
use Rattle.serde_json.specs.Find.{get}
use Rattle.kms_json.specs.declared.given.Given.{Given}
use Rattle.kms_json.specs.declared.given.Given.TheVariants as given
use Rattle.kms_json.specs.Fields.{FieldRow, value_given, values_of, given_by}
use Rattle.kms_json.specs.Building.{first_of, held}

-- ---- the value at a place

abbrev pub value_in : ℕ → List Given → Given
value_in zero values = first_of values
value_in (suc n) values = value_in n (drop 1 values)

-- ---- there are as many as fields

more_counted : (count : ℕ) (values : List Given) (first : Option Given) (rest : Option (List Given))
    → ((vs : List Given) → rest ≡ Some vs → length vs ≡ count) → option_and_then (λ v. option_map (λ vs. v ∷ vs) rest) first ≡ Some values → length values ≡ suc count
more_counted count values None rest later e = cc
more_counted count values (Some v) None later e = cc
more_counted count values (Some v) (Some vs) later e = let all : v ∷ vs ≡ values = cc in sym (ap (λ (l : List Given). length l) all) ∙ ap suc (later vs refl)

pub values_counted : (rows : List FieldRow) (body : Data) (values : List Given) → values_of rows body ≡ Some values → length values ≡ length rows
values_counted [] body values e = let none : [] ≡ values = cc in ap (λ (l : List Given). length l) (sym none)
values_counted (row ∷ rows) body values e = more_counted (length rows) values (value_given row.kind (get row.name body)) (values_of rows body) (values_counted rows body) e

-- ---- the value of the field of a name is what the body gives it

module _ (row : FieldRow) (rows : List FieldRow) (body : Data) (name : List ℕ) where
  held_here : (first : Option Given) (rest : Option (List Given)) (values : List Given)
      → ((vs : List Given) → rest ≡ Some vs → held rows vs name ≡ given_by rows body name)
      → option_and_then (λ v. option_map (λ vs. v ∷ vs) rest) first ≡ Some values
      → held (row ∷ rows) values name ≡ (if bytes_eq row.name name then unwrap_or first given.Absent else given_by rows body name)
  held_here None rest values later e = cc
  held_here (Some v) None values later e = cc
  held_here (Some v) (Some vs) values later e =
      let all : v ∷ vs ≡ values = cc in
      sym (ap (λ (l : List Given). held (row ∷ rows) l name) all)
      ∙ ap (λ (g : Given). if bytes_eq row.name name then v else g) (later vs refl)

pub held_is : (rows : List FieldRow) (body : Data) (values : List Given) → values_of rows body ≡ Some values → (name : List ℕ) → held rows values name ≡ given_by rows body name
held_is [] body values e name = refl
held_is (row ∷ rows) body values e name =
    held_here row rows body name (value_given row.kind (get row.name body)) (values_of rows body) values (λ vs is. held_is rows body vs is name) e
