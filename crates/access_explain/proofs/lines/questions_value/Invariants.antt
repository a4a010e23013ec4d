use Rattle.std.proofs.Common.{◌≡◌, ◌++◌, drop, map}
use Rattle.serde_json.specs.View.{view}
use Rattle.access_explain.specs.Lines.{question_data}
use Rattle.access_explain.proofs.lines.questions_value.Given as goal

abbrev pub invariant-loop-finding : goal.invariant-loop-finding
invariant-loop-finding l = map view l.values.items ++ map question_data (drop l.finding-index l.findings) ≡ map question_data l.findings
