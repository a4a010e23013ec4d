use Rattle.std.proofs.Common.{◌≡◌, ◌++◌}
use Rattle.serde_json.specs.View.{members_view}
use Rattle.policy_doc.specs.Paths.{path_text}
use Rattle.policy_doc.specs.Conditions.{operators_fault, operators_of}
use Rattle.policy_doc.proofs.conditions.read_operators.Given as goal

abbrev pub invariant-loop-name : goal.invariant-loop-name
invariant-loop-name l = record {
  first : operators_fault (path_text l.path) (members_view l.name-iterator) ≡ operators_fault (path_text l.path) (members_view l.map.entries);
  conditions : l.conditions.items ++ operators_of (members_view l.name-iterator) ≡ operators_of (members_view l.map.entries);
}
