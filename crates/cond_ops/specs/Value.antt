-- The forms of values of policies.
use Rattle.std.specs.Prelude.{◌≡◌, ◌⊎◌, ℕ, zero, suc, ℤ, Bool, true, false, List, ◌∷◌, ◌++◌, codes, ⊤}
use Rattle.std.specs.Str.{str_to_ascii_lowercase}
use Rattle.kms_names.specs.Parts.{HasNoColon}
use Rattle.cond_ops.specs.declared.operators.Operator.{Operator}
use Rattle.cond_ops.specs.declared.operators.Kind.{Kind}
use Rattle.cond_ops.specs.declared.operators.Kind.TheVariants.{Text, TextIgnoringCase, Pattern, Number, Date, Truth, Arn, Absence}
use Rattle.cond_ops.specs.Operator.{kind_of}
use Rattle.cond_ops.specs.Number.{IsNumber}
use Rattle.cond_ops.specs.Moment.{IsMoment}

-- `true` and `false` without ASCII case
abbrev pub IsTruth : List ℕ → Bool → Type 0
IsTruth text true = str_to_ascii_lowercase text ≡ codes "true"
IsTruth text false = str_to_ascii_lowercase text ≡ codes "false"

-- a text has this many colons (58), or more
abbrev pub HasColons : ℕ → List ℕ → Type 0
HasColons zero text = ⊤
HasColons (suc n) text = (part : List ℕ) × (rest : List ℕ) × HasNoColon part × (text ≡ part ++ 58 ∷ rest) × HasColons n rest

-- the value of a policy has the form for what it is compared as
abbrev pub HasForm : Kind → List ℕ → Type 0
HasForm Text text = ⊤
HasForm TextIgnoringCase text = ⊤
HasForm Pattern text = ⊤
HasForm (Number order) text = (z : ℤ) × IsNumber text z
HasForm (Date order) text = (z : ℤ) × IsMoment text z
HasForm Truth text = (b : Bool) × IsTruth text b
HasForm Arn text = HasColons 5 text
HasForm Absence text = (text ≡ codes "true") ⊎ (text ≡ codes "false")

-- the value of a policy has the form for the operator
abbrev pub IsValue : Operator → List ℕ → Type 0
IsValue operator text = HasForm (kind_of operator) text
