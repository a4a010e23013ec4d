-- What the headers of a message ask.
use Rattle.std.specs.Prelude.{ℕ, List, [], ◌∷◌, codes, Option, Some, None, Result, Err}
use Rattle.kms_json.specs.declared.asks.AskBody.{AskBody}
use Rattle.kms_json.specs.declared.refusals.Refusal.{Refusal}
use Rattle.kms_json.specs.declared.refusals.Refusal.TheVariants.{UnknownOperation}
use Rattle.kms_json.specs.Asks.{asked}
use Rattle.kms_names.specs.Digits.{number_in}
use Rattle.http_front.specs.Heading.{values_of}
use Rattle.http_front.specs.Message.{Message}
use Rattle.session_front.specs.declared.asked.After.{After}
use Rattle.session_front.specs.declared.asked.After.TheVariants.{Entries, Malformed}

-- X-Amz-Target stands once and names an operation, and the body has its fields
abbrev pub asked_once : List (List ℕ) → List ℕ → Result AskBody Refusal
asked_once [] body = Err UnknownOperation
asked_once (target ∷ []) body = asked target body
asked_once (target ∷ other ∷ more) body = Err UnknownOperation

abbrev pub asked_in : Message → Result AskBody Refusal
asked_in m = asked_once (values_of (codes "X-Amz-Target") m.head) m.body

abbrev pub after_number : Option ℕ → After
after_number None = Malformed
after_number (Some n) = Entries (Some n)

-- x-kms-after is absent, or stands once as 1 to 18 decimal digits
abbrev pub after_among : List (List ℕ) → After
after_among [] = Entries None
after_among (value ∷ []) = after_number (number_in 18 value)
after_among (value ∷ other ∷ more) = Malformed

abbrev pub after_in : Message → After
after_in m = after_among (values_of (codes "x-kms-after") m.head)
