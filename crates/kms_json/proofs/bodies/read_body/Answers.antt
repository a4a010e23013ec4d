use Rattle.std.proofs.Common.{◌≡◌, Some, None, rules}
use Rattle.std.specs.Str.{IsUtf8}
use Rattle.serde_json.specs.Read.{read as read_text}
use Rattle.serde_json.specs.View.{view}
use Rattle.kms_json.proofs.BodyLemmas.{body_some, body_none}
use Rattle.kms_json.proofs.bodies.read_body.Goals as goal

pub returns-in-Ok : goal.returns-in-Ok
returns-in-Ok c = body_some c.args.body.now (Some (view c.in-Ok.value)) c.if-is_empty.ensures c.in-Ok.ensures.ok.0 c.in-Ok.ensures.ok.1

pub returns-in-Err-2 : goal.returns-in-Err-2
returns-in-Err-2 c =
    let none : IsUtf8 c.args.body.now → read_text c.args.body.now ≡ None = c.in-Err-2.ensures.err (search rules) in
    body_none c.args.body.now c.if-is_empty.ensures none
