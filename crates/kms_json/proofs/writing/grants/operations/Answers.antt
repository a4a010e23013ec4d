use Rattle.std.proofs.Common.{[], ◌∷◌, codes}
use Rattle.std.proofs.lemmas.Result.{on_ok_weaker}
use Rattle.json.specs.Token.{key}
use Rattle.kms_json.specs.GrantReplies.{operations_data}
use Rattle.kms_json.specs.Texts.{data_tokens}
use Rattle.kms_json.proofs.TextLemmas.{behind}
use Rattle.kms_json.proofs.writing.grants.operations.Goals as goal

pub returns : goal.returns
returns c =
    let names = data_tokens (operations_data c.args.operations.now) in
    on_ok_weaker c.names_in.result (λ e. behind c.args.text.now c.key.new.self c.names_in.new.text (key (codes "Operations") ∷ []) names c.in_ok-key.ensures e) c.names_in.ensures
