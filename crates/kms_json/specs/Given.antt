-- What a request's body gives to a field, by its form. What isn't of the form that is asked for counts as nothing given.
use Rattle.std.specs.Prelude.{ℕ, List, [], Bool, true, false, not, Option, Some, None, unwrap_or}
use Rattle.kms_names.specs.GrantOps.{is_named, those}
use Rattle.kms_names.specs.declared.operations.GrantOps.{GrantOps}
use Rattle.enc_context.specs.declared.pairs.Pair.{Pair}
use Rattle.resource_tags.specs.declared.tags.Tag.{Tag}
use Rattle.kms_json.specs.declared.asks.grants.GrantConstraint.{GrantConstraint}
use Rattle.kms_json.specs.declared.asks.grants.GrantConstraint.TheVariants as constraint
use Rattle.kms_json.specs.declared.given.Given.{Given}
use Rattle.kms_json.specs.declared.given.Given.TheVariants as given

abbrev pub is_absent : Given → Bool
is_absent given.Absent = true
is_absent _ = false

abbrev pub is_there : Given → Bool
is_there value = not (is_absent value)

abbrev pub text_if : Given → Option (List ℕ)
text_if (given.Text s) = Some s
text_if _ = None

abbrev pub text_in : Given → List ℕ
text_in (given.Text s) = s
text_in _ = []

abbrev pub bytes_in : Given → List ℕ
bytes_in (given.Bytes b) = b
bytes_in _ = []

abbrev pub context_in : Given → Option (List Pair)
context_in (given.Context c) = c
context_in _ = None

abbrev pub pairs_in : Given → List Pair
pairs_in value = unwrap_or (context_in value) []

abbrev pub texts_in : Given → List (List ℕ)
texts_in (given.Texts texts) = texts
texts_in _ = []

abbrev pub constraint_if : Given → Option GrantConstraint
constraint_if (given.Constraint c) = c
constraint_if _ = None

abbrev pub tags_if : Given → Option (List Tag)
tags_if (given.Tags tags) = tags
tags_if _ = None

abbrev pub tags_in : Given → List Tag
tags_in value = unwrap_or (tags_if value) []

-- no constraint asks nothing
abbrev pub constraint_in : Given → GrantConstraint
constraint_in value = unwrap_or (constraint_if value) constraint.Free

-- the set of the operations that are named
abbrev pub operations_named : List (List ℕ) → GrantOps
operations_named names = those (is_named names)

abbrev pub whole_in : Given → Option ℕ
whole_in (given.Whole n) = n
whole_in _ = None

-- the number, or this one where it is none
abbrev pub number_or : Given → ℕ → ℕ
number_or value default = unwrap_or (whole_in value) default

abbrev pub number_in : Given → ℕ
number_in value = number_or value 0

abbrev pub flag_in : Given → Bool
flag_in (given.Flag b) = b
flag_in _ = false
