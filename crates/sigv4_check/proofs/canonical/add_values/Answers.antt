use Rattle.std.proofs.Common.{◌+◌, ◌∙◌, sym, ap, subst, arith, Bool, drop}
use Rattle.sha2.specs.declared.Sha256.{Sha256}
use Rattle.http_front.specs.Heading.{Field, values_in}
use Rattle.sigv4_check.specs.Fields.{fields_in}
use Rattle.sigv4_check.specs.Canonical.{canonical_values}
use Rattle.sigv4_check.proofs.FieldFacts.{some_field, no_field, named, not_named}
use Rattle.sigv4_check.proofs.ValueFacts.{ValuesReach, value_added, values_added}
use Rattle.sigv4_check.proofs.canonical.add_values.Goals.{then-has_name, else-has_name}
use Rattle.sigv4_check.proofs.canonical.add_values.Goals as goal

pub loop-field-smaller : goal.loop-field-smaller
loop-field-smaller c =
    let fields = fields_in c.args.buffer.now c.args.cut.now in
    let from = some_field fields c.loop-field.i (c.in-Some.field.now, c.in-Some.value.now) c.in-Some.ensures.value in
    omega (arith, from.0)

pub loop-field-preserved : goal.loop-field-preserved
loop-field-preserved c =
    let fields = fields_in c.args.buffer.now c.args.cut.now in
    let name = c.args.name.now in
    let field : Field = (c.in-Some.field.now, c.in-Some.value.now) in
    let entry = c.args.hasher.now in
    let whole = canonical_values fields name in
    let others = drop (c.loop-field.i + 1) fields in
    let from = some_field fields c.loop-field.i field c.in-Some.ensures.value in
    elim c.if-has_name.branch [
      | then-has_name w ↦
          let next = value_added entry c.loop-field.hasher w.add_next_value.new.hasher whole c.loop-field.is_first c.in-Some.value.now (values_in name (drop c.loop-field.i fields)) (values_in name others)
          (ap (values_in name) from.1 ∙ named name field others w.if-has_name.ensures) c.loop-field.invariant w.add_next_value.ensures in
          subst (λ (h : Sha256). ValuesReach entry h whole c.if-has_name.is_first (values_in name others)) (sym w.hasher-is)
          (subst (λ (b : Bool). ValuesReach entry w.add_next_value.new.hasher whole b (values_in name others)) (sym w.is_first-is) next)
      | else-has_name w ↦
          let same = ap (values_in name) from.1 ∙ not_named name field others w.if-has_name.ensures in
          let next = subst (λ vs. ValuesReach entry c.loop-field.hasher whole c.loop-field.is_first vs) same c.loop-field.invariant in
          subst (λ (h : Sha256). ValuesReach entry h whole c.if-has_name.is_first (values_in name others)) (sym w.hasher-is)
          (subst (λ (b : Bool). ValuesReach entry c.loop-field.hasher whole b (values_in name others)) (sym w.is_first-is) next)
    ]

pub returns : goal.returns
returns c =
    let fields = fields_in c.args.buffer.now c.args.cut.now in
    let name = c.args.name.now in
    let whole = canonical_values fields name in
    let none = ap (values_in name) (no_field fields c.loop-field.i c.in_default.ensures.value) in
    values_added c.args.hasher.now c.loop-field.hasher whole c.loop-field.is_first
    (subst (λ vs. ValuesReach c.args.hasher.now c.loop-field.hasher whole c.loop-field.is_first vs) none c.loop-field.invariant)
