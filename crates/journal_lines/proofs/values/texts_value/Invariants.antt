use Rattle.std.proofs.Common.{◌≡◌, ◌++◌, drop, map}
use Rattle.serde_json.specs.View.{view}
use Rattle.journal_lines.specs.Values.{base64_data}
use Rattle.journal_lines.proofs.values.texts_value.Given as goal

abbrev pub invariant-loop-text : goal.invariant-loop-text
invariant-loop-text l = map view l.values.items ++ map base64_data (drop l.text-index l.texts) ≡ map base64_data l.texts
