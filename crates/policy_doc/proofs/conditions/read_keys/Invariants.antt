use Rattle.std.proofs.Common.{◌≡◌, ◌++◌}
use Rattle.serde_json.specs.View.{members_view}
use Rattle.policy_doc.specs.Paths.{path_text}
use Rattle.policy_doc.specs.Conditions.{keys_fault, keys_of}
use Rattle.policy_doc.proofs.conditions.read_keys.Given as goal

abbrev pub invariant-loop-key : goal.invariant-loop-key
invariant-loop-key l = record {
  first : keys_fault l.operator (path_text l.path) (members_view l.key-iterator) ≡ keys_fault l.operator (path_text l.path) (members_view l.map.entries);
  conditions : l.conditions.items ++ keys_of l.operator (members_view l.key-iterator) ≡ l.initial.conditions.items ++ keys_of l.operator (members_view l.map.entries);
}
