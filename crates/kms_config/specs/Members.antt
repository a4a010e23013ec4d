-- The members of objects.
use Rattle.std.specs.Prelude.{ℕ, List, Option, Some, None, Result, Ok, Err, option_and_then}
use Rattle.serde_json.specs.Data.{Data, null, boolean, number, string, array, object, Members}
use Rattle.serde_json.specs.Find.{as_str}
use Rattle.policy_doc.specs.Paths.{member_path}

-- the text that a member is
abbrev pub text_in : Option Data → Option (List ℕ)
text_in value = option_and_then as_str value

-- an object's members, or a fault at its place
abbrev pub members_in : List ℕ → Data → Result Members (List ℕ)
members_in path null = Err path
members_in path (boolean b) = Err path
members_in path (number n) = Err path
members_in path (string s) = Err path
members_in path (array ds) = Err path
members_in path (object ms) = Ok ms

-- no member has another name than these
abbrev pub none_other : List ℕ → Option (List ℕ) → Result (Unit {0}) (List ℕ)
none_other path None = Ok tt
none_other path (Some name) = Err (member_path path name)
