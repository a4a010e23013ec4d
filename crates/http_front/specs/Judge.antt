-- What a whole head comes to: the size of its body, or the first fault; and whether the connection closes after the reply.
use Rattle.std.specs.Prelude.{ℕ, List, [], ◌∷◌, Bool, true, false, not, ◌&&◌, ◌||◌, ◌==◌, nat_le, if◌then◌else◌, codes, Option, Some, None, Result, Ok, Err}
use Rattle.std.specs.List.{list_any}
use Rattle.std.specs.Str.{bytes_eq, str_eq_ignore_ascii_case}
use Rattle.httparse.specs.Grammar.{trim_ows}
use Rattle.http_front.specs.declared.judge.HttpFault.{HttpFault}
use Rattle.http_front.specs.declared.judge.HttpFault.TheVariants.{NotPost, NotRoot, Chunked, TwoLengths, NoLength, TooLong}
use Rattle.kms_names.specs.Digits.{number_in}
use Rattle.http_front.specs.Heading.{Heading, Field, is_named, value_in, values_of}

abbrev pub size_within : Option ℕ → Result ℕ HttpFault
size_within None = Err NoLength
size_within (Some n) = if nat_le n 131072 then Ok n else Err TooLong

-- the values of Content-Length: there is one, it is 1 to 9 decimal digits, and its number is at most 131,072
abbrev pub size_in : List (List ℕ) → Result ℕ HttpFault
size_in [] = Err NoLength
size_in (value ∷ []) = size_within (number_in 9 value)
size_in (value ∷ other ∷ more) = Err TwoLengths

abbrev pub is_some_value : List (List ℕ) → Bool
is_some_value [] = false
is_some_value (value ∷ more) = true

-- how many bytes the body has, or the first fault in the order of the tests
abbrev pub judged : Heading → Result ℕ HttpFault
judged h =
    if not (bytes_eq h.method (codes "POST")) then Err NotPost
    else (if not (bytes_eq h.target (codes "/")) then Err NotRoot
    else (if is_some_value (values_of (codes "Transfer-Encoding") h) then Err Chunked
    else size_in (values_of (codes "Content-Length") h)))

abbrev pub with_byte : ℕ → List (List ℕ) → List (List ℕ)
with_byte byte [] = (byte ∷ []) ∷ []
with_byte byte (part ∷ parts) = (byte ∷ part) ∷ parts

abbrev pub is_comma : ℕ → Bool
is_comma byte = byte == 44

-- what stands between the commas
abbrev pub parts_of : List ℕ → List (List ℕ)
parts_of [] = [] ∷ []
parts_of (byte ∷ bytes) = if is_comma byte then [] ∷ parts_of bytes else with_byte byte (parts_of bytes)

abbrev pub is_close : List ℕ → Bool
is_close part = str_eq_ignore_ascii_case (trim_ows part) (codes "close")

-- `close` is one of the options in the value of Connection (RFC 9110, section 7.6.1)
abbrev pub has_close : List ℕ → Bool
has_close value = list_any is_close (parts_of value)

abbrev pub asks_to_close : Field → Bool
asks_to_close field = is_named (codes "Connection") field && has_close (value_in field)

-- the connection closes after the reply (RFC 9112, section 9.3): the version is HTTP/1.0, or a header Connection says so
abbrev pub closes_after : Heading → Bool
closes_after h = (h.minor == 0) || list_any asks_to_close h.fields
