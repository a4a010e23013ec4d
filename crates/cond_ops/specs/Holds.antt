-- When a condition holds of a request.
use Rattle.std.specs.Prelude.{ℕ, Bool, true, false, IsTrue, List, codes, filter, All, Any, Contains, MatchBool, ⊤}
use Rattle.std.specs.List.{list_any, flat_map}
use Rattle.std.specs.Str.{str_eq_ignore_ascii_case}
use Rattle.cond_ops.specs.declared.operators.Kind.{Kind}
use Rattle.cond_ops.specs.declared.operators.Kind.TheVariants.{Text, TextIgnoringCase, Pattern, Number, Date, Truth, Arn, Absence}
use Rattle.cond_ops.specs.declared.qualified.Qualifier.{Qualifier}
use Rattle.cond_ops.specs.declared.qualified.Qualifier.TheVariants.{Plain, AllValues, AnyValue}
use Rattle.cond_ops.specs.declared.conditions.Condition.{Condition}
use Rattle.cond_ops.specs.declared.facts.Fact.{Fact}
use Rattle.cond_ops.specs.declared.facts.RequestFacts.{RequestFacts}
use Rattle.cond_ops.specs.Operator.{kind_of, is_negated}
use Rattle.cond_ops.specs.Relation.{Relates}

-- the fact has this name, without ASCII case
abbrev pub has_name : List ℕ → Fact → Bool
has_name key fact = str_eq_ignore_ascii_case fact.key key

-- some fact of the request has the key's name
abbrev pub is_present : List ℕ → List Fact → Bool
is_present key facts = list_any (has_name key) facts

-- the values of all facts of this name together
abbrev pub request_values : List ℕ → List Fact → List (List ℕ)
request_values key facts = flat_map (λ (fact : Fact). fact.values) (filter (has_name key) facts)

-- a value of the request matches: it stands in the operator's relation to some value of the policy
abbrev pub ValueMatches : Condition → List ℕ → Type 0
ValueMatches condition value = Any (Relates condition.operator value) condition.values

-- a key that is present, by qualifier and negation, which of the request's values match, and these values
abbrev pub HoldsOfValues : Qualifier → Bool → (List ℕ → Type 0) → List (List ℕ) → Type 0
HoldsOfValues Plain false IsMatch values = Any IsMatch values
HoldsOfValues Plain true IsMatch values = ¬ (Any IsMatch values)
HoldsOfValues AllValues false IsMatch values = All IsMatch values
HoldsOfValues AllValues true IsMatch values = All (λ value. ¬ (IsMatch value)) values
HoldsOfValues AnyValue false IsMatch values = Any IsMatch values
HoldsOfValues AnyValue true IsMatch values = Any (λ value. ¬ (IsMatch value)) values

-- a key that is missing, by qualifier, negation and the suffix IfExists
abbrev pub HoldsOfNone : Qualifier → Bool → Bool → Type 0
HoldsOfNone qualifier negated true = ⊤
HoldsOfNone Plain negated false = IsTrue negated
HoldsOfNone AllValues negated false = ⊤
HoldsOfNone AnyValue negated false = ⊥

-- the one fact for Null, and the other for every other operator
abbrev pub IfAbsence : Kind → Type 0 → Type 0 → Type 0
IfAbsence Absence null other = null
IfAbsence Text null other = other
IfAbsence TextIgnoringCase null other = other
IfAbsence Pattern null other = other
IfAbsence (Number order) null other = other
IfAbsence (Date order) null other = other
IfAbsence Truth null other = other
IfAbsence Arn null other = other

-- the condition holds where its key is present with these values: Null with `false`
abbrev pub HoldsPresent : Condition → List (List ℕ) → Type 0
HoldsPresent condition values =
    IfAbsence (kind_of condition.operator) (Contains condition.values (codes "false"))
    (HoldsOfValues condition.qualifier (is_negated condition.operator) (ValueMatches condition) values)

-- the condition holds where its key is missing: Null with `true`
abbrev pub HoldsMissing : Condition → Type 0
HoldsMissing condition =
    IfAbsence (kind_of condition.operator) (Contains condition.values (codes "true"))
    (HoldsOfNone condition.qualifier (is_negated condition.operator) condition.if_exists)

-- the condition holds of the facts of a request
abbrev pub HoldsOf : Condition → List Fact → Type 0
HoldsOf condition facts =
    MatchBool (is_present condition.key facts)
    (HoldsPresent condition (request_values condition.key facts))
    (HoldsMissing condition)

-- the condition holds of the request
unfoldable pub Holds : Condition → RequestFacts → Type 0
Holds condition request = HoldsOf condition request.facts
