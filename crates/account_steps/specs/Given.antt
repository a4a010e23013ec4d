-- What texts of a request name: a principal by its ARN, a grant by its id.
use Rattle.std.specs.Prelude.{ℕ, List, Option, Some, None, ok_or, Result, Ok}
use Rattle.kms_names.specs.Reading.{principal_of}
use Rattle.kms_names.specs.declared.principals.Principal.{Principal}
use Rattle.kms_json.specs.declared.refusals.Refusal.{Refusal}
use Rattle.kms_json.specs.declared.refusals.Refusal.TheVariants as refusal
use Rattle.account_steps.specs.Steps.{and_then}
use Rattle.account_steps.specs.Parts.{grant_id_of}

abbrev pub principal_in : List ℕ → Result Principal Refusal
principal_in text = ok_or (principal_of text) refusal.InvalidArn

abbrev pub principal_if_given : Option (List ℕ) → Result (Option Principal) Refusal
principal_if_given None = Ok None
principal_if_given (Some text) = and_then (principal_in text) (λ principal. Ok (Some principal))

abbrev pub grant_id_in : List ℕ → Result (List ℕ) Refusal
grant_id_in text = ok_or (grant_id_of text) refusal.InvalidGrantId
