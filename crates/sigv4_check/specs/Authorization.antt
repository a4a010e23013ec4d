-- The header Authorization of a signed request (IAM User Guide, "Create a signed AWS API request", step 5).
use Rattle.std.specs.Prelude.{ℕ, Bool, ◌==◌, ◌&&◌, ◌||◌, if◌then◌else◌, List, [], ◌∷◌, Option, Some, None, option_and_then, length, map, codes, nat_le}
use Rattle.std.specs.Char.{is_ascii_digit}
use Rattle.std.specs.List.{list_all}
use Rattle.std.specs.Str.{bytes_eq}
use Rattle.kms_names.specs.Reading.{after_front, some_if}
use Rattle.sigv4_check.specs.Parts.{parts_at, skip_spaces, present, only}

-- What the header claims: whose credential and of which day and region it is, which headers are signed (their names joined by `;`), and the signature.
pub record Claims : Type 0 where
  pub id : List ℕ
  pub date : List ℕ
  pub region : List ℕ
  pub names : List ℕ
  pub signature : List ℕ

-- the credential's scope: its id, the day and the region
pub record Scope : Type 0 where
  pub id : List ℕ
  pub date : List ℕ
  pub region : List ℕ

-- ID/DATE/REGION/kms/aws4_request
abbrev pub scope_in : List (List ℕ) → Option Scope
scope_in [] = None
scope_in (id ∷ []) = None
scope_in (id ∷ date ∷ []) = None
scope_in (id ∷ date ∷ region ∷ []) = None
scope_in (id ∷ date ∷ region ∷ service ∷ []) = None
scope_in (id ∷ date ∷ region ∷ service ∷ end ∷ []) =
    some_if (bytes_eq service (codes "kms") && bytes_eq end (codes "aws4_request")) (record { id = id; date = date; region = region })
scope_in (id ∷ date ∷ region ∷ service ∷ end ∷ other ∷ more) = None

abbrev pub scope_of : List ℕ → Option Scope
scope_of text = scope_in (parts_at 47 text)

-- 64 hexadecimal digits in lower case
abbrev pub is_lower_hex_digit : ℕ → Bool
is_lower_hex_digit c = is_ascii_digit c || (nat_le 97 c && nat_le c 102)

abbrev pub is_signature : List ℕ → Bool
is_signature text = (length text == 64) && list_all is_lower_hex_digit text

abbrev pub signature_in : List ℕ → Option (List ℕ)
signature_in text = some_if (is_signature text) text

-- the value of the one part that begins with a key
abbrev pub part_of : List ℕ → List (List ℕ) → Option (List ℕ)
part_of key parts = only (present (map (after_front key) parts))

abbrev pub claims_from : Option Scope → Option (List ℕ) → Option (List ℕ) → Option Claims
claims_from None names signature = None
claims_from (Some scope) None signature = None
claims_from (Some scope) (Some names) None = None
claims_from (Some scope) (Some names) (Some signature) =
    Some (record { id = scope.id; date = scope.date; region = scope.region; names = names; signature = signature })

-- three parts in any order, each once
abbrev pub claims_in : List (List ℕ) → Option Claims
claims_in parts =
    if length parts == 3
    then claims_from (option_and_then scope_of (part_of (codes "Credential=") parts)) (part_of (codes "SignedHeaders=") parts)
    (option_and_then signature_in (part_of (codes "Signature=") parts))
    else None

-- behind the algorithm and a space the parts, with a comma between two of them and any spaces before each
abbrev pub claims_behind : List ℕ → Option Claims
claims_behind text = claims_in (map skip_spaces (parts_at 44 text))

abbrev pub claims_of : List ℕ → Option Claims
claims_of value = option_and_then claims_behind (after_front (codes "AWS4-HMAC-SHA256 ") value)
