use Rattle.std.proofs.Common.{◌≡◌, sym, ◌∙◌, subst}
use Rattle.std.specs.Prelude.{◌↔◌, IsTrue}
use Rattle.cond_ops.specs.declared.operators.Kind.{Kind}
use Rattle.cond_ops.specs.declared.operators.Kind.TheVariants.{Date}
use Rattle.cond_ops.specs.Moment.{IsMoment}
use Rattle.cond_ops.specs.Operator.{kind_of}
use Rattle.cond_ops.specs.Value.{HasForm}
use Rattle.cond_ops.proofs.ReadingFacts.{some_read}
use Rattle.cond_ops.proofs.values.is_value.Goals as goal

pub returns-in-Date : goal.returns-in-Date
returns-in-Date c =
    let text = c.args.text.now in
    let is : Date c.in-Date.field-0 ≡ kind_of c.args.operator = sym c.in-Date.is ∙ c.kind.ensures in
    subst (λ (k : Kind). IsTrue c.is_some-in-Date.result ↔ HasForm k text) is
    (some_read (IsMoment text) c.read_moment.result c.read_moment.ensures c.is_some-in-Date.result c.is_some-in-Date.ensures)
