-- What the head of a request says (RFC 9112, sections 3 and 5).
use Rattle.std.specs.Prelude.{ℕ, List, map, Bool}
use Rattle.std.specs.List.{filter}
use Rattle.std.specs.Str.{str_eq_ignore_ascii_case}
use Rattle.httparse.specs.Grammar.{RequestHead}
use Rattle.httparse.specs.Spans.{name_and_value}

-- a header: its name, and its value without the white space around it
abbrev pub Field : Type 0
Field = List ℕ × List ℕ

pub record Heading : Type 0 where
  pub method : List ℕ
  pub target : List ℕ
  pub minor : ℕ
  pub fields : List (List ℕ × List ℕ)

abbrev pub heading_of : RequestHead → Heading
heading_of h = record { method = h.method; target = h.target; minor = h.minor; fields = map name_and_value h.fields }

-- names are compared without case (RFC 9110, section 5.1)
abbrev pub is_named : List ℕ → Field → Bool
is_named name field = str_eq_ignore_ascii_case field.0 name

abbrev pub value_in : Field → List ℕ
value_in field = field.1

-- the values of the headers of a name, in order
abbrev pub values_in : List ℕ → List (List ℕ × List ℕ) → List (List ℕ)
values_in name fields = map value_in (filter (is_named name) fields)

abbrev pub values_of : List ℕ → Heading → List (List ℕ)
values_of name h = values_in name h.fields
