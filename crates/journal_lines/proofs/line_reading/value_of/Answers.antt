use Rattle.std.proofs.Common.{◌≡◌, None, rules}
use Rattle.std.specs.Str.{IsUtf8}
use Rattle.serde_json.specs.Read.{read as read_text}
use Rattle.serde_json.specs.View.{view}
use Rattle.journal_lines.proofs.LineReadingFacts.{value_some, value_none}
use Rattle.journal_lines.proofs.line_reading.value_of.Goals as goal

pub returns-in-Ok : goal.returns-in-Ok
returns-in-Ok c = value_some c.args.text.now (view c.in-Ok.value) c.in-Ok.ensures.ok.0 c.in-Ok.ensures.ok.1

pub returns-in-Err-2 : goal.returns-in-Err-2
returns-in-Err-2 c =
    let none : IsUtf8 c.args.text.now → read_text c.args.text.now ≡ None = c.in-Err-2.ensures.err (search rules) in
    value_none c.args.text.now none
