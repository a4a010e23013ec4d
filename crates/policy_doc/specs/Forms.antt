-- The forms of texts in a policy.
use Rattle.std.specs.Prelude.{ℕ, Bool, true, false, not, ◌&&◌, ◌||◌, ◌==◌, nat_eq, nat_le, nat_lt, List, [], ◌∷◌, length, codes, count_by, Option, Some, None, if◌then◌else◌}
use Rattle.std.specs.Char.{is_ascii_uppercase, is_ascii_digit}
use Rattle.std.specs.List.{list_any, list_all, starts_with}
use Rattle.std.specs.Str.{bytes_eq}
use Rattle.kms_names.specs.Reading.{is_account_number}
use Rattle.policy_doc.specs.Operators.{is_value_text, is_null}
use Rattle.policy_doc.specs.declared.faults.Departure.{Departure}
use Rattle.policy_doc.specs.declared.faults.Departure.TheVariants.{BadShape, Unsupported}
use Rattle.policy_doc.specs.declared.forms.Form.{Form}
use Rattle.policy_doc.specs.declared.forms.Form.TheVariants.{Action, Resource, Caller, Stranger, Value}

abbrev pub has_colon : List ℕ → Bool
has_colon text = list_any (λ c. c == 58) text

abbrev pub begins_with_brace : List ℕ → Bool
begins_with_brace [] = false
begins_with_brace (c ∷ text) = c == 123

-- `${` stands somewhere
abbrev pub has_variable : List ℕ → Bool
has_variable [] = false
has_variable (c ∷ text) = (c == 36 && begins_with_brace text) || has_variable text

-- `arn:` in front, at least five colons, no `*` and no `?`
abbrev pub is_arn : List ℕ → Bool
is_arn text = starts_with nat_eq text (codes "arn:") && (nat_le 5 (count_by (λ c. c == 58) text) && not (list_any (λ c. c == 42 || c == 63) text))

-- 16 to 128 upper-case letters and digits
abbrev pub is_unique_id : List ℕ → Bool
is_unique_id text = (nat_le 16 (length text) && nat_le (length text) 128) && list_all (λ c. is_ascii_uppercase c || is_ascii_digit c) text

-- `*`, an account number, an ARN or a unique id
abbrev pub is_caller : List ℕ → Bool
is_caller text = bytes_eq text (codes "*") || (is_account_number text || (is_arn text || is_unique_id text))

-- `${` is unsupported even where the form is wrong too
abbrev pub value_departure : Bool → Bool → Option Departure
value_departure true taken = Some Unsupported
value_departure false true = None
value_departure false false = Some BadShape

-- how a text departs from its form
abbrev pub departure_of : Form → List ℕ → Option Departure
departure_of Action text = if bytes_eq text (codes "*") || has_colon text then None else Some BadShape
departure_of Resource text = if has_variable text then Some Unsupported else None
departure_of Caller text = if is_caller text then None else Some BadShape
departure_of Stranger text = None
departure_of (Value operator) text = value_departure (has_variable text) (is_value_text operator text)

-- truth values and whole numbers stand for their JSON text among the values of conditions alone
abbrev pub takes_scalars : Form → Bool
takes_scalars Action = false
takes_scalars Resource = false
takes_scalars Caller = false
takes_scalars Stranger = false
takes_scalars (Value operator) = true

-- how many items a list has: one or more, but one for Null
abbrev pub takes_count : Form → ℕ → Bool
takes_count Action n = nat_lt 0 n
takes_count Resource n = nat_lt 0 n
takes_count Caller n = nat_lt 0 n
takes_count Stranger n = nat_lt 0 n
takes_count (Value operator) n = if is_null operator then n == 1 else nat_lt 0 n
