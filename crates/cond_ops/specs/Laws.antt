-- Laws of the written forms.
use Rattle.std.specs.Prelude.{◌≡◌, ℕ, ℤ, List}
use Rattle.cond_ops.specs.declared.operators.Operator.{Operator}
use Rattle.cond_ops.specs.declared.qualified.QualifiedOperator.{QualifiedOperator}
use Rattle.cond_ops.specs.Qualified.{operator_text, IsWellQualified}
use Rattle.cond_ops.specs.Number.{IsNumber}
use Rattle.cond_ops.specs.Moment.{IsMoment}
use Rattle.cond_ops.specs.Value.{IsValue}
use Rattle.cond_ops.specs.Relation.{Relates}

-- two operators have two texts
abbrev pub OperatorTextsDiffer : Type 0
OperatorTextsDiffer =
    (x y : QualifiedOperator) → IsWellQualified x → IsWellQualified y → operator_text x ≡ operator_text y → x ≡ y

-- a text is one number at most
abbrev pub NumbersAreOne : Type 0
NumbersAreOne = (text : List ℕ) (x y : ℤ) → IsNumber text x → IsNumber text y → x ≡ y

-- a text is one date at most
abbrev pub MomentsAreOne : Type 0
MomentsAreOne = (text : List ℕ) (x y : ℤ) → IsMoment text x → IsMoment text y → x ≡ y

-- values that stand in an operator's relation have both the form that the operator asks for
abbrev pub RelatedValuesHaveTheForm : Type 0
RelatedValuesHaveTheForm =
    (operator : Operator) (request policy : List ℕ) → Relates operator request policy → IsValue operator request × IsValue operator policy
