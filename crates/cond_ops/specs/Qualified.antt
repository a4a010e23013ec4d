-- Operators with a prefix and a suffix.
use Rattle.std.specs.Prelude.{◌≡◌, ◌≢◌, ℕ, Bool, true, false, List, [], ◌++◌, codes}
use Rattle.cond_ops.specs.declared.operators.Operator.TheVariants.{NullIs}
use Rattle.cond_ops.specs.declared.qualified.Qualifier.{Qualifier}
use Rattle.cond_ops.specs.declared.qualified.Qualifier.TheVariants.{Plain, AllValues, AnyValue}
use Rattle.cond_ops.specs.declared.qualified.QualifiedOperator.{QualifiedOperator}
use Rattle.cond_ops.specs.Operator.{operator_name}

-- what stands before the operator's name
abbrev pub prefix_of : Qualifier → List ℕ
prefix_of Plain = []
prefix_of AllValues = codes "ForAllValues:"
prefix_of AnyValue = codes "ForAnyValue:"

-- what stands behind it
abbrev pub suffix_of : Bool → List ℕ
suffix_of false = []
suffix_of true = codes "IfExists"

-- the text of an operator in a policy document
abbrev pub operator_text : QualifiedOperator → List ℕ
operator_text x = prefix_of x.qualifier ++ (operator_name x.operator ++ suffix_of x.if_exists)

-- Null takes neither prefix nor suffix
abbrev pub IsWellQualified : QualifiedOperator → Type 0
IsWellQualified x = x.operator ≡ NullIs → (x.qualifier ≡ Plain) × (x.if_exists ≡ false)

-- the text of one operator, which may have this prefix and suffix
abbrev pub IsOperatorText : List ℕ → QualifiedOperator → Type 0
IsOperatorText text x = IsWellQualified x × (text ≡ operator_text x)

-- a prefix and what follows it, where a text that begins with a prefix has that one
abbrev pub IsAfterPrefix : List ℕ → Qualifier → List ℕ → Type 0
IsAfterPrefix text qualifier rest =
    (text ≡ prefix_of qualifier ++ rest)
    × (qualifier ≡ Plain → (other : List ℕ) → (text ≢ prefix_of AllValues ++ other) × (text ≢ prefix_of AnyValue ++ other))
