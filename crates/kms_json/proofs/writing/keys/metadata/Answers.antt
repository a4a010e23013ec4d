use Rattle.std.proofs.Common.{◌≡◌, ℕ, List, [], ◌∷◌, ◌++◌, codes, ap, ◌∙◌}
use Rattle.std.proofs.lemmas.Result.{on_ok_weaker}
use Rattle.json.specs.Token.{begin_object, end_object, key}
use Rattle.serde_json.specs.Data.{Data}
use Rattle.kms_names.specs.Reference.{key_arn_text}
use Rattle.kms_json.specs.KeyReplies.{described_as, metadata}
use Rattle.kms_json.specs.Texts.{data_tokens}
use Rattle.kms_json.proofs.TextLemmas.{behind}
use Rattle.kms_json.proofs.writing.keys.metadata.Goals as goal

pub returns : goal.returns
returns c =
    let old = c.args.text.now in
    let one = c.args.key.now in
    let id = c.key_text_into-id.result.now in
    let arn : c.as_str-3.result.now ≡ key_arn_text one.account one.region one.key =
    c.as_str-3.ensures.value ∙ c.in_ok-arn.ensures ∙ ap (λ (region : List ℕ). key_arn_text one.account region one.key) c.as_str.ensures.value in
    let is : described_as c.as_str-2.result.now c.as_str-3.result.now one id ≡ metadata one =
    ap (λ (account : List ℕ). described_as account c.as_str-3.result.now one id) c.as_str-2.ensures.value ∙ ap (λ (text : List ℕ). described_as one.account text one id) arn
    ∙ ap (described_as one.account (key_arn_text one.account one.region one.key) one) c.key_text_into-id.ensures in
    let named = behind old c.begin_object.new.self c.key.new.self (begin_object ∷ []) (key (codes "KeyMetadata") ∷ []) c.in_ok-begin_object.ensures c.in_ok-key.ensures in
    let held = c.in_ok-described.ensures ∙ ap (λ (d : Data). c.key.new.self ++ data_tokens d) is in
    let written = behind old c.key.new.self c.described.new.text (begin_object ∷ key (codes "KeyMetadata") ∷ []) (data_tokens (metadata one)) named held in
    on_ok_weaker c.end_object.result
    (λ e. behind old c.described.new.text c.end_object.new.self (begin_object ∷ key (codes "KeyMetadata") ∷ data_tokens (metadata one)) (end_object ∷ []) written e)
    c.end_object.ensures
