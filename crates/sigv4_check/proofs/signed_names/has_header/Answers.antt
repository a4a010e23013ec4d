use Rattle.std.proofs.Common.{◌+◌, ◌∙◌, sym, ap, arith, drop}
use Rattle.http_front.specs.Heading.{Field}
use Rattle.http_front.specs.Judge.{is_some_value}
use Rattle.sigv4_check.specs.Fields.{fields_in}
use Rattle.sigv4_check.specs.SignedNames.{has_header}
use Rattle.sigv4_check.proofs.FieldFacts.{some_field, no_field, named, not_named}
use Rattle.sigv4_check.proofs.signed_names.has_header.Goals as goal

pub returns-then-has_name : goal.returns-then-has_name
returns-then-has_name c =
    let fields = fields_in c.args.buffer.now c.args.cut.now in
    let name = c.args.name.now in
    let field : Field = (c.in-Some.field.now, c.in-Some.field-0-1.now) in
    let from = some_field fields c.loop-field.i field c.in-Some.ensures.value in
    sym (ap is_some_value (named name field (drop (c.loop-field.i + 1) fields) c.if-has_name.ensures)) ∙ sym (ap (λ fs. has_header fs name) from.1) ∙ c.loop-field.invariant

pub loop-field-smaller : goal.loop-field-smaller
loop-field-smaller c =
    let fields = fields_in c.args.buffer.now c.args.cut.now in
    let from = some_field fields c.loop-field.i (c.in-Some.field.now, c.in-Some.field-0-1.now) c.in-Some.ensures.value in
    omega (arith, from.0)

pub loop-field-preserved : goal.loop-field-preserved
loop-field-preserved c =
    let fields = fields_in c.args.buffer.now c.args.cut.now in
    let name = c.args.name.now in
    let field : Field = (c.in-Some.field.now, c.in-Some.field-0-1.now) in
    let from = some_field fields c.loop-field.i field c.in-Some.ensures.value in
    sym (ap is_some_value (not_named name field (drop (c.loop-field.i + 1) fields) c.if-has_name.ensures)) ∙ sym (ap (λ fs. has_header fs name) from.1) ∙ c.loop-field.invariant

pub returns : goal.returns
returns c =
    let fields = fields_in c.args.buffer.now c.args.cut.now in
    sym (ap (λ fs. has_header fs c.args.name.now) (no_field fields c.loop-field.i c.in_default.ensures.value)) ∙ c.loop-field.invariant
