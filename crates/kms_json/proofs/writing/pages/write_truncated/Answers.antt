use Rattle.std.proofs.Common.{[], ◌∷◌, codes, Some}
use Rattle.std.proofs.lemmas.Result.{on_ok_weaker}
use Rattle.json.specs.Token.{end_object}
use Rattle.serde_json.specs.Data.{boolean}
use Rattle.kms_json.specs.Texts.{member_tokens}
use Rattle.kms_json.proofs.TextLemmas.{behind}
use Rattle.kms_json.proofs.writing.pages.write_truncated.Goals as goal

pub returns : goal.returns
returns c =
    let flag = member_tokens (codes "Truncated") (Some (boolean c.args.truncated)) in
    on_ok_weaker c.end_object.result (λ e. behind c.args.text.now c.write_flag.new.text c.end_object.new.self flag (end_object ∷ []) c.in_ok-write_flag.ensures e) c.end_object.ensures
