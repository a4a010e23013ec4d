-- An operation built from the values of its fields is what the body asks of it.
use Rattle.std.proofs.Common.{◌≡◌, List, Option, Some, None, Ok, Err, sym, ap, ◌∙◌}
use Rattle.serde_json.specs.Data.{Data}
use Rattle.kms_json.specs.declared.given.Given.{Given}
use Rattle.kms_json.specs.declared.asks.AskBody.{AskBody}
use Rattle.kms_json.specs.declared.refusals.Refusal.{Refusal}
use Rattle.kms_json.specs.declared.operations.Operation.{Operation}
use Rattle.kms_json.specs.Operations.{fields_of, built}
use Rattle.kms_json.specs.Fields.{values_of, first_invalid}
use Rattle.kms_json.specs.Asks.{body_of, asked_unless, asked_of_values}
use Rattle.kms_json.specs.Building.{held}
use Rattle.kms_json.proofs.ValueLemmas.{held_is}

pub asked_is : (op : Operation) (body : Data) (values : List Given) → values_of (fields_of op) body ≡ Some values → built op (held (fields_of op) values) ≡ body_of op body
asked_is op body values e = λ i. built op (λ name. held_is (fields_of op) body values e name i)

-- what is answered where the values are read and valid
pub served_is : (op : Operation) (body : Data) (values : List Given) (answer : AskBody) → values_of (fields_of op) body ≡ Some values
    → None ≡ first_invalid (fields_of op) body values → answer ≡ built op (held (fields_of op) values) → asked_of_values op body (values_of (fields_of op) body) ≡ Ok answer
served_is op body values answer e valid made =
    ap (asked_of_values op body) e ∙ ap (λ (f : Option Refusal). asked_unless f (body_of op body)) (sym valid)
    ∙ ap Ok (sym (asked_is op body values e) ∙ sym made)

-- what is answered where the values are read and one of them isn't valid
pub refused_is : (op : Operation) (body : Data) (values : List Given) (why : Refusal) → values_of (fields_of op) body ≡ Some values
    → Some why ≡ first_invalid (fields_of op) body values → asked_of_values op body (values_of (fields_of op) body) ≡ Err why
refused_is op body values why e invalid =
    ap (asked_of_values op body) e ∙ ap (λ (f : Option Refusal). asked_unless f (body_of op body)) (sym invalid)
