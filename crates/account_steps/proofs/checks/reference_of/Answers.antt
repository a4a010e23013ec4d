use Rattle.std.proofs.Common.{ℕ, List, ap, ◌∙◌}
use Rattle.kms_names.specs.Reading.{key_ref_of}
use Rattle.kms_names.proofs.ReferenceReading.{key_ref_value}
use Rattle.account_steps.proofs.checks.reference_of.Goals as goal

pub returns : goal.returns
returns c =
    let account = c.args.facts.now.account in
    let region = c.as_str-region.result.now in
    let reads = c.read_key_ref.ensures in
    c.in_ok-read.ensures.same
    ∙ key_ref_value c.as_str.result.now account region c.read_key_ref.result reads.ok reads.bad_arn reads.bad_alias reads.bad_id c.in_ok-read.ensures.memory
    ∙ ap (λ (text : List ℕ). key_ref_of text account region) c.as_str.ensures.value
    ∙ ap (key_ref_of c.args.reference.now account) c.as_str-region.ensures.value
