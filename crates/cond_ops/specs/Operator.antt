-- The operators of conditions: their names, what they compare values as, and which are negated.
use Rattle.std.specs.Prelude.{ℕ, Bool, true, false, List, codes}
use Rattle.cond_ops.specs.declared.operators.Operator.{Operator}
use Rattle.cond_ops.specs.declared.operators.Operator.TheVariants.{StringEquals, StringNotEquals, StringEqualsIgnoreCase, StringNotEqualsIgnoreCase, StringLike, StringNotLike, NumericEquals, NumericNotEquals, NumericLessThan, NumericLessThanEquals, NumericGreaterThan, NumericGreaterThanEquals, DateEquals, DateNotEquals, DateLessThan, DateLessThanEquals, DateGreaterThan, DateGreaterThanEquals, BoolIs, ArnEquals, ArnNotEquals, ArnLike, ArnNotLike, NullIs}
use Rattle.cond_ops.specs.declared.operators.Order.TheVariants.{Equal, Less, LessOrEqual, Greater, GreaterOrEqual}
use Rattle.cond_ops.specs.declared.operators.Kind.{Kind}
use Rattle.cond_ops.specs.declared.operators.Kind.TheVariants.{Text, TextIgnoringCase, Pattern, Number, Date, Truth, Arn, Absence}

-- the name in a policy document
abbrev pub operator_name : Operator → List ℕ
operator_name StringEquals = codes "StringEquals"
operator_name StringNotEquals = codes "StringNotEquals"
operator_name StringEqualsIgnoreCase = codes "StringEqualsIgnoreCase"
operator_name StringNotEqualsIgnoreCase = codes "StringNotEqualsIgnoreCase"
operator_name StringLike = codes "StringLike"
operator_name StringNotLike = codes "StringNotLike"
operator_name NumericEquals = codes "NumericEquals"
operator_name NumericNotEquals = codes "NumericNotEquals"
operator_name NumericLessThan = codes "NumericLessThan"
operator_name NumericLessThanEquals = codes "NumericLessThanEquals"
operator_name NumericGreaterThan = codes "NumericGreaterThan"
operator_name NumericGreaterThanEquals = codes "NumericGreaterThanEquals"
operator_name DateEquals = codes "DateEquals"
operator_name DateNotEquals = codes "DateNotEquals"
operator_name DateLessThan = codes "DateLessThan"
operator_name DateLessThanEquals = codes "DateLessThanEquals"
operator_name DateGreaterThan = codes "DateGreaterThan"
operator_name DateGreaterThanEquals = codes "DateGreaterThanEquals"
operator_name BoolIs = codes "Bool"
operator_name ArnEquals = codes "ArnEquals"
operator_name ArnNotEquals = codes "ArnNotEquals"
operator_name ArnLike = codes "ArnLike"
operator_name ArnNotLike = codes "ArnNotLike"
operator_name NullIs = codes "Null"

-- what an operator compares values as
abbrev pub kind_of : Operator → Kind
kind_of StringEquals = Text
kind_of StringNotEquals = Text
kind_of StringEqualsIgnoreCase = TextIgnoringCase
kind_of StringNotEqualsIgnoreCase = TextIgnoringCase
kind_of StringLike = Pattern
kind_of StringNotLike = Pattern
kind_of NumericEquals = Number Equal
kind_of NumericNotEquals = Number Equal
kind_of NumericLessThan = Number Less
kind_of NumericLessThanEquals = Number LessOrEqual
kind_of NumericGreaterThan = Number Greater
kind_of NumericGreaterThanEquals = Number GreaterOrEqual
kind_of DateEquals = Date Equal
kind_of DateNotEquals = Date Equal
kind_of DateLessThan = Date Less
kind_of DateLessThanEquals = Date LessOrEqual
kind_of DateGreaterThan = Date Greater
kind_of DateGreaterThanEquals = Date GreaterOrEqual
kind_of BoolIs = Truth
kind_of ArnEquals = Arn
kind_of ArnNotEquals = Arn
kind_of ArnLike = Arn
kind_of ArnNotLike = Arn
kind_of NullIs = Absence

-- the operator is the negation of another
abbrev pub is_negated : Operator → Bool
is_negated StringEquals = false
is_negated StringNotEquals = true
is_negated StringEqualsIgnoreCase = false
is_negated StringNotEqualsIgnoreCase = true
is_negated StringLike = false
is_negated StringNotLike = true
is_negated NumericEquals = false
is_negated NumericNotEquals = true
is_negated NumericLessThan = false
is_negated NumericLessThanEquals = false
is_negated NumericGreaterThan = false
is_negated NumericGreaterThanEquals = false
is_negated DateEquals = false
is_negated DateNotEquals = true
is_negated DateLessThan = false
is_negated DateLessThanEquals = false
is_negated DateGreaterThan = false
is_negated DateGreaterThanEquals = false
is_negated BoolIs = false
is_negated ArnEquals = false
is_negated ArnNotEquals = true
is_negated ArnLike = false
is_negated ArnNotLike = true
is_negated NullIs = false
