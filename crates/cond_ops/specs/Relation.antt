-- The relation of an operator between a value of a request and a value of a policy. An operator and its negation
-- have the same. A value of another form than the operator's stands in it to nothing.
use Rattle.std.specs.Prelude.{◌≡◌, ℕ, zero, suc, ℤ, ◌<ℤ◌, ◌≤ℤ◌, Bool, List, ◌∷◌, ◌++◌}
use Rattle.std.specs.Str.{chars, str_to_ascii_lowercase}
use Rattle.kms_names.specs.Glob.{Globs}
use Rattle.kms_names.specs.Parts.{HasNoColon}
use Rattle.cond_ops.specs.declared.operators.Operator.{Operator}
use Rattle.cond_ops.specs.declared.operators.Order.{Order}
use Rattle.cond_ops.specs.declared.operators.Order.TheVariants.{Equal, Less, LessOrEqual, Greater, GreaterOrEqual}
use Rattle.cond_ops.specs.declared.operators.Kind.{Kind}
use Rattle.cond_ops.specs.declared.operators.Kind.TheVariants.{Text, TextIgnoringCase, Pattern, Number, Date, Truth, Arn, Absence}
use Rattle.cond_ops.specs.Operator.{kind_of}
use Rattle.cond_ops.specs.Number.{IsNumber}
use Rattle.cond_ops.specs.Moment.{IsMoment}
use Rattle.cond_ops.specs.Value.{IsTruth}

-- x, on the left, is so to y
abbrev pub Compares : Order → ℤ → ℤ → Type 0
Compares Equal x y = x ≡ y
Compares Less x y = x <ℤ y
Compares LessOrEqual x y = x ≤ℤ y
Compares Greater x y = y <ℤ x
Compares GreaterOrEqual x y = y ≤ℤ x

-- a pattern with `*` and `?` matches a text
abbrev pub IsLike : List ℕ → List ℕ → Type 0
IsLike text pattern = Globs (chars pattern) (chars text)

-- the first n parts before colons (58), and then all that follows them, match each the pattern's of its place
abbrev pub PartsAreLike : ℕ → List ℕ → List ℕ → Type 0
PartsAreLike zero text pattern = IsLike text pattern
PartsAreLike (suc n) text pattern =
    (part : List ℕ) × (rest : List ℕ) × (like : List ℕ) × (others : List ℕ)
    × HasNoColon part × HasNoColon like × (text ≡ part ++ 58 ∷ rest) × (pattern ≡ like ++ 58 ∷ others)
    × IsLike part like × PartsAreLike n rest others

-- the request's value stands in the relation to the policy's
abbrev pub RelatesAs : Kind → List ℕ → List ℕ → Type 0
RelatesAs Text request policy = request ≡ policy
RelatesAs TextIgnoringCase request policy = str_to_ascii_lowercase request ≡ str_to_ascii_lowercase policy
RelatesAs Pattern request policy = IsLike request policy
RelatesAs (Number order) request policy = (x : ℤ) × (y : ℤ) × IsNumber request x × IsNumber policy y × Compares order x y
RelatesAs (Date order) request policy = (x : ℤ) × (y : ℤ) × IsMoment request x × IsMoment policy y × Compares order x y
RelatesAs Truth request policy = (b : Bool) × IsTruth request b × IsTruth policy b
RelatesAs Arn request policy = PartsAreLike 5 request policy
RelatesAs Absence request policy = ⊥

abbrev pub Relates : Operator → List ℕ → List ℕ → Type 0
Relates operator request policy = RelatesAs (kind_of operator) request policy
