use Rattle.std.proofs.Common.{List, ◌++◌, ap, ◌∙◌}
use Rattle.json.specs.Token.{Token}
use Rattle.json.specs.Print.{print}
use Rattle.serde_json.proofs.Texts.{print-outline}
use Rattle.kms_json.specs.Replies.{reply_data}
use Rattle.kms_json.specs.Texts.{data_tokens}
use Rattle.kms_json.proofs.writing.write_reply.Goals as goal

pub returns : goal.returns
returns c =
    let body = reply_data c.args.reply.now in
    let written = c.in_ok-write_body.ensures ∙ ap (λ (ts : List Token). ts ++ data_tokens body) c.in_ok-text.ensures in
    c.new-2.ensures ∙ c.into_bytes.ensures ∙ ap print written ∙ print-outline body
