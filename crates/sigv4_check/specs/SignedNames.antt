-- Which headers a request must sign (IAM User Guide, "Create a signed AWS API request", step 1, "SignedHeaders").
use Rattle.std.specs.Prelude.{ℕ, Bool, true, not, ◌&&◌, ◌||◌, List, [], ◌∷◌, codes, take}
use Rattle.std.specs.Char.{is_ascii_uppercase}
use Rattle.std.specs.List.{list_all, list_any}
use Rattle.std.specs.Ordering.{nat_cmp, is_lt}
use Rattle.std.specs.Cmp.Lexicographic.{slice_cmp}
use Rattle.std.specs.Str.{str_eq_ignore_ascii_case}
use Rattle.http_front.specs.Heading.{Field, values_in}
use Rattle.http_front.specs.Judge.{is_some_value}
use Rattle.sigv4_check.specs.Parts.{parts_at}

-- no letter is in upper case
abbrev pub is_lower : List ℕ → Bool
is_lower name = list_all (λ c. not (is_ascii_uppercase c)) name

-- a header has this name
abbrev pub has_header : List Field → List ℕ → Bool
has_header fields name = is_some_value (values_in name fields)

-- one stands before the other in the order of bytes
abbrev pub is_before : List ℕ → List ℕ → Bool
is_before one other = is_lt (slice_cmp nat_cmp one other)

-- strictly ascending in the order of bytes
abbrev pub ascend : List (List ℕ) → Bool
ascend [] = true
ascend (name ∷ []) = true
ascend (name ∷ next ∷ names) = is_before name next && ascend (next ∷ names)

-- the header of this name is signed
abbrev pub is_signed : List (List ℕ) → List ℕ → Bool
is_signed names name = list_any (str_eq_ignore_ascii_case name) names

-- the name begins with `x-amz-`, without case
abbrev pub is_amz : List ℕ → Bool
is_amz name = str_eq_ignore_ascii_case (take 6 name) (codes "x-amz-")

abbrev pub is_signed_if_amz : List (List ℕ) → Field → Bool
is_signed_if_amz names field = not (is_amz field.0) || is_signed names field.0

-- a name that may be signed: it is in lower case, and a header has it
abbrev pub is_signable : List Field → List ℕ → Bool
is_signable fields name = is_lower name && has_header fields name

abbrev pub are_signable : List Field → List (List ℕ) → Bool
are_signable fields names = ascend names && list_all (is_signable fields) names

-- `host` is signed, and so is each header whose name begins with `x-amz-`
abbrev pub are_enough : List Field → List (List ℕ) → Bool
are_enough fields names = is_signed names (codes "host") && list_all (is_signed_if_amz names) fields

-- the names, joined by `;`
unfoldable pub are_signed_names : List Field → List ℕ → Bool
are_signed_names fields text = are_signable fields (parts_at 59 text) && are_enough fields (parts_at 59 text)
