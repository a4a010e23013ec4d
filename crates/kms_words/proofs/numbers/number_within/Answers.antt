use Rattle.std.proofs.Common.{sym, ◌∙◌}
use Rattle.kms_words.proofs.NumberFacts.{too_large}
use Rattle.kms_words.proofs.numbers.number_within.Goals as goal

pub returns-in_default-3-clause-number : goal.returns-in_default-3-clause-number
returns-in_default-3-clause-number c =
    too_large 64 c.args.least c.args.most c.args.text.now c.in_default.field-0 c.ranges.most.fits (sym c.is_number.ensures ∙ c.if-not-is_number.false) c.in_default.ensures.value.0
