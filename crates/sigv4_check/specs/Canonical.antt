-- The canonical request (IAM User Guide, "Create a signed AWS API request", step 1).
use Rattle.std.specs.Prelude.{ℕ, Bool, true, false, ◌==◌, ◌&&◌, if◌then◌else◌, List, [], ◌∷◌, ◌++◌, map, codes}
use Rattle.std.specs.List.{join_with_byte}
use Rattle.hex.specs.Hex.{encode_lower}
use Rattle.sha2.specs.Sha256.{sha256}
use Rattle.http_front.specs.Heading.{Field, values_in}
use Rattle.sigv4_check.specs.Parts.{parts_at}

abbrev pub begins_with_space : List ℕ → Bool
begins_with_space [] = false
begins_with_space (c ∷ text) = c == 32

-- it begins with a space and another one
abbrev pub begins_with_spaces : List ℕ → Bool
begins_with_spaces [] = false
begins_with_spaces (c ∷ text) = (c == 32) && begins_with_space text

-- each run of spaces as one space
abbrev pub squeezed : List ℕ → List ℕ
squeezed [] = []
squeezed (c ∷ text) = if begins_with_spaces (c ∷ text) then squeezed text else c ∷ squeezed text

-- a value, with a comma before it where others stand before it
abbrev pub next_value : Bool → List ℕ → List ℕ
next_value true value = squeezed value
next_value false value = 44 ∷ squeezed value

-- the values of a name, in order. A field's value has no white space at its ends.
abbrev pub canonical_values : List Field → List ℕ → List ℕ
canonical_values fields name = join_with_byte 44 (map squeezed (values_in name fields))

-- name:value
abbrev pub header_line : List Field → List ℕ → List ℕ
header_line fields name = name ++ 58 ∷ canonical_values fields name

-- the same with the line feed behind it
abbrev pub ended_line : List Field → List ℕ → List ℕ
ended_line fields name = header_line fields name ++ 10 ∷ []

abbrev pub body_hash : List ℕ → List ℕ
body_hash body = encode_lower (sha256 body)

-- The lines: the method, the path, the query, a line for each signed header, an empty line, the signed names, and the hash of the body.
abbrev pub canonical_lines : List Field → List ℕ → List ℕ → List (List ℕ)
canonical_lines fields names body =
    codes "POST" ∷ codes "/" ∷ [] ∷ (map (header_line fields) (parts_at 59 names) ++ [] ∷ names ∷ body_hash body ∷ [])

unfoldable pub canonical_request : List Field → List ℕ → List ℕ → List ℕ
canonical_request fields names body = join_with_byte 10 (canonical_lines fields names body)
