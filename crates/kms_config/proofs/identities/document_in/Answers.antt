use Rattle.std.proofs.Common.{refl, []}
use Rattle.serde_json.specs.View.{view}
use Rattle.policy_doc.specs.declared.faults.PolicyFault.TheVariants.{BadShape, Unsupported, TooLong, NotJson}
use Rattle.policy_doc.specs.Paths.{path_text}
use Rattle.kms_config.proofs.DocumentFacts.{document_read, refused_at}
use Rattle.kms_config.proofs.identities.document_in.Goals as goal

pub returns-in-Ok : goal.returns-in-Ok
returns-in-Ok c = document_read (path_text c.args.place.now) (view c.args.value.now) c.in-Ok.policy c.in-Ok.ensures.ok.0 c.in-Ok.ensures.ok.1

pub returns-in-Err-BadShape : goal.returns-in-Err-BadShape
returns-in-Err-BadShape c =
    refused_at (path_text c.args.place.now) (view c.args.value.now) c.in-Err-BadShape.field-0 (BadShape c.in-Err-BadShape.path) c.as_str.result.now c.refused_behind.result
    c.in-Err-BadShape.ensures.fault c.in-Err-BadShape.field-0-is (λ e. cc) c.as_str.ensures.value c.refused_behind.ensures

pub returns-in-Err-Unsupported : goal.returns-in-Err-Unsupported
returns-in-Err-Unsupported c =
    refused_at (path_text c.args.place.now) (view c.args.value.now) c.in-Err-Unsupported.field-0 (Unsupported c.in-Err-Unsupported.path) c.as_str-in-Err-Unsupported.result.now
    c.refused_behind-in-Err-Unsupported.result
    c.in-Err-Unsupported.ensures.fault c.in-Err-Unsupported.field-0-is (λ e. cc) c.as_str-in-Err-Unsupported.ensures.value c.refused_behind-in-Err-Unsupported.ensures

pub returns-in-Err-TooLong : goal.returns-in-Err-TooLong
returns-in-Err-TooLong c =
    refused_at (path_text c.args.place.now) (view c.args.value.now) c.in-Err-TooLong.field-0 TooLong [] c.refused_behind-in-Err-TooLong.result
    c.in-Err-TooLong.ensures.fault c.in-Err-TooLong.field-0-is (λ e. cc) refl c.refused_behind-in-Err-TooLong.ensures

pub returns-in-Err-NotJson : goal.returns-in-Err-NotJson
returns-in-Err-NotJson c =
    refused_at (path_text c.args.place.now) (view c.args.value.now) c.in-Err-NotJson.field-0 NotJson [] c.refused_behind-in-Err-NotJson.result
    c.in-Err-NotJson.ensures.fault c.in-Err-NotJson.field-0-is (λ e. cc) refl c.refused_behind-in-Err-NotJson.ensures
