-- Values that stand in an operator's relation have its form.
use Rattle.std.proofs.Common.{ℕ, zero, suc, List}
use Rattle.cond_ops.specs.declared.operators.Operator.{Operator}
use Rattle.cond_ops.specs.declared.operators.Kind.{Kind}
use Rattle.cond_ops.specs.declared.operators.Kind.TheVariants.{Text, TextIgnoringCase, Pattern, Number, Date, Truth, Arn, Absence}
use Rattle.cond_ops.specs.Operator.{kind_of}
use Rattle.cond_ops.specs.Relation.{PartsAreLike, Relates, RelatesAs}
use Rattle.cond_ops.specs.Value.{HasColons, HasForm, IsValue}

parts_have_colons : (n : ℕ) (text pattern : List ℕ) → PartsAreLike n text pattern → HasColons n text × HasColons n pattern
parts_have_colons zero text pattern like = (tt, tt)
parts_have_colons (suc n) text pattern (part, rest, other, others, none, none', at, at', here, there) =
    let behind = parts_have_colons n rest others there in ((part, rest, none, at, behind.0), (other, others, none', at', behind.1))

forms_of : (kind : Kind) (request policy : List ℕ) → RelatesAs kind request policy → HasForm kind request × HasForm kind policy
forms_of Text request policy h = (tt, tt)
forms_of TextIgnoringCase request policy h = (tt, tt)
forms_of Pattern request policy h = (tt, tt)
forms_of (Number order) request policy (x, y, at, bt, so) = ((x, at), (y, bt))
forms_of (Date order) request policy (x, y, at, bt, so) = ((x, at), (y, bt))
forms_of Truth request policy (b, at, bt) = ((b, at), (b, bt))
forms_of Arn request policy h = parts_have_colons 5 request policy h
forms_of Absence request policy h = absurd h

pub both_have_form : (operator : Operator) (request policy : List ℕ) → Relates operator request policy → IsValue operator request × IsValue operator policy
both_have_form operator request policy h = forms_of (kind_of operator) request policy h
