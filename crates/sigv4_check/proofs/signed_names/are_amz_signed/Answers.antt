use Rattle.std.proofs.Common.{◌+◌, ◌∙◌, sym, ap, arith, drop}
use Rattle.std.specs.List.{list_all}
use Rattle.http_front.specs.Heading.{Field}
use Rattle.sigv4_check.specs.Parts.{parts_at}
use Rattle.sigv4_check.specs.Fields.{fields_in}
use Rattle.sigv4_check.specs.SignedNames.{is_signed_if_amz}
use Rattle.sigv4_check.proofs.FieldFacts.{some_field, no_field, all_first, all_rest}
use Rattle.sigv4_check.proofs.signed_names.are_amz_signed.Goals as goal

pub returns-then-not-is_signed_if_amz : goal.returns-then-not-is_signed_if_amz
returns-then-not-is_signed_if_amz c =
    let fields = fields_in c.args.buffer.now c.args.cut.now in
    let test = is_signed_if_amz (parts_at 59 c.args.names.now) in
    let field : Field = (c.in-Some.field.now, c.in-Some.field-0-1.now) in
    let from = some_field fields c.loop-field.i field c.in-Some.ensures.value in
    all_first test field (drop (c.loop-field.i + 1) fields) c.if-not-is_signed_if_amz.ensures ∙ sym (ap (list_all test) from.1) ∙ c.loop-field.invariant

pub loop-field-smaller : goal.loop-field-smaller
loop-field-smaller c =
    let fields = fields_in c.args.buffer.now c.args.cut.now in
    let from = some_field fields c.loop-field.i (c.in-Some.field.now, c.in-Some.field-0-1.now) c.in-Some.ensures.value in
    omega (arith, from.0)

pub loop-field-preserved : goal.loop-field-preserved
loop-field-preserved c =
    let fields = fields_in c.args.buffer.now c.args.cut.now in
    let test = is_signed_if_amz (parts_at 59 c.args.names.now) in
    let field : Field = (c.in-Some.field.now, c.in-Some.field-0-1.now) in
    let from = some_field fields c.loop-field.i field c.in-Some.ensures.value in
    all_rest test field (drop (c.loop-field.i + 1) fields) c.if-not-is_signed_if_amz.ensures ∙ sym (ap (list_all test) from.1) ∙ c.loop-field.invariant

pub returns : goal.returns
returns c =
    let fields = fields_in c.args.buffer.now c.args.cut.now in
    let test = is_signed_if_amz (parts_at 59 c.args.names.now) in
    sym (ap (list_all test) (no_field fields c.loop-field.i c.in_default.ensures.value)) ∙ c.loop-field.invariant
