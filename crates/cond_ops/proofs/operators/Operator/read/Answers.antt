use Rattle.std.proofs.Common.{◌≢◌}
use Rattle.cond_ops.specs.Operator.{operator_name}
use Rattle.cond_ops.specs.declared.operators.Operator.TheVariants.{StringEquals, StringNotEquals, StringEqualsIgnoreCase, StringNotEqualsIgnoreCase, StringLike, StringNotLike, NumericEquals, NumericNotEquals, NumericLessThan, NumericLessThanEquals, NumericGreaterThan, NumericGreaterThanEquals, DateEquals, DateNotEquals, DateLessThan, DateLessThanEquals, DateGreaterThan, DateGreaterThanEquals, BoolIs, ArnEquals, ArnNotEquals, ArnLike, ArnNotLike, NullIs}
use Rattle.cond_ops.proofs.operators.Operator.read.Goals as goal

pub returns-in_default : goal.returns-in_default
returns-in_default c = λ o. elim o as (λ x. c.args.text.now ≢ operator_name x) [
  | StringEquals ↦ c.in_default.not-StringEquals
  | StringNotEquals ↦ c.in_default.not-StringNotEquals
  | StringEqualsIgnoreCase ↦ c.in_default.not-StringEqualsIgnoreCase
  | StringNotEqualsIgnoreCase ↦ c.in_default.not-StringNotEqualsIgnoreCase
  | StringLike ↦ c.in_default.not-StringLike
  | StringNotLike ↦ c.in_default.not-StringNotLike
  | NumericEquals ↦ c.in_default.not-NumericEquals
  | NumericNotEquals ↦ c.in_default.not-NumericNotEquals
  | NumericLessThan ↦ c.in_default.not-NumericLessThan
  | NumericLessThanEquals ↦ c.in_default.not-NumericLessThanEquals
  | NumericGreaterThan ↦ c.in_default.not-NumericGreaterThan
  | NumericGreaterThanEquals ↦ c.in_default.not-NumericGreaterThanEquals
  | DateEquals ↦ c.in_default.not-DateEquals
  | DateNotEquals ↦ c.in_default.not-DateNotEquals
  | DateLessThan ↦ c.in_default.not-DateLessThan
  | DateLessThanEquals ↦ c.in_default.not-DateLessThanEquals
  | DateGreaterThan ↦ c.in_default.not-DateGreaterThan
  | DateGreaterThanEquals ↦ c.in_default.not-DateGreaterThanEquals
  | BoolIs ↦ c.in_default.not-Bool
  | ArnEquals ↦ c.in_default.not-ArnEquals
  | ArnNotEquals ↦ c.in_default.not-ArnNotEquals
  | ArnLike ↦ c.in_default.not-ArnLike
  | ArnNotLike ↦ c.in_default.not-ArnNotLike
  | NullIs ↦ c.in_default.not-Null
]
