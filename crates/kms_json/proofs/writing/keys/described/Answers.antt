use Rattle.std.proofs.Common.{subst}
use Rattle.std.specs.Option.{option_map}
use Rattle.serde_json.specs.Data.{Data}
use Rattle.kms_json.specs.Texts.{Writes}
use Rattle.kms_json.proofs.KeyLemmas.{described_is}
use Rattle.kms_json.proofs.writing.keys.described.Goals as goal

pub returns : goal.returns
returns c =
    subst (λ (d : Data). Writes c.write_object.result c.args.text.now c.write_object.new.text d)
    (described_is c.args.account.now c.args.arn.now c.args.id.now c.as_str.result.now c.name.result.now c.usage_text.result.now c.spec_text-spec.result.now c.is_enabled.result c.deletion_date.result
    (option_map (λ t. t.now) c.encryption_algorithm.result) (option_map (λ t. t.now) c.mac_algorithm.result) c.args.key.now
    c.as_str.ensures.value c.name.ensures c.is_enabled.ensures c.deletion_date.ensures c.usage_text.ensures c.spec_text-spec.ensures c.encryption_algorithm.ensures c.mac_algorithm.ensures)
    c.write_object.ensures
