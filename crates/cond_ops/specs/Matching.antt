-- What is asked of a condition's values.
use Rattle.std.specs.Prelude.{◌≡◌, ℕ, Bool, true, false, not, IsTrue, List, Option, None, Some, All, Any, MatchBool}
use Rattle.cond_ops.specs.declared.conditions.Condition.{Condition}
use Rattle.cond_ops.specs.declared.facts.Fact.{Fact}
use Rattle.cond_ops.specs.declared.qualified.Qualifier.{Qualifier}
use Rattle.cond_ops.specs.declared.qualified.Qualifier.TheVariants.{Plain, AllValues, AnyValue}
use Rattle.cond_ops.specs.Holds.{ValueMatches, has_name, is_present, request_values}

-- a value matches, or does not
abbrev pub IsMatch : Condition → Bool → List ℕ → Type 0
IsMatch condition true value = ValueMatches condition value
IsMatch condition false value = ¬ (ValueMatches condition value)

-- some of the values is of this kind, or all are of the other
abbrev pub SomeMatch : Condition → Bool → List (List ℕ) → Bool → Type 0
SomeMatch condition wanted values result =
    MatchBool result (Any (IsMatch condition wanted) values) (All (IsMatch condition (not wanted)) values)

-- a condition asks for a value that matches, or for one that does not, by its qualifier and its operator's negation
abbrev pub wanted_of : Qualifier → Bool → Bool
wanted_of Plain negated = true
wanted_of AllValues negated = negated
wanted_of AnyValue negated = not negated

-- the key of the condition is missing, or is present and some of the request's values is of this kind, or none is
abbrev pub IsLookUp : Condition → Bool → List Fact → Option Bool → Type 0
IsLookUp condition wanted facts None = is_present condition.key facts ≡ false
IsLookUp condition wanted facts (Some found) = (is_present condition.key facts ≡ true) × SomeMatch condition wanted (request_values condition.key facts) found

-- the same of a fact's values, where it has the condition's key
abbrev pub HasMatch : Condition → Bool → Fact → Type 0
HasMatch condition wanted fact = IsTrue (has_name condition.key fact) × Any (IsMatch condition wanted) fact.values

abbrev pub HasNoMatch : Condition → Bool → Fact → Type 0
HasNoMatch condition wanted fact = IsTrue (has_name condition.key fact) → All (IsMatch condition (not wanted)) fact.values
