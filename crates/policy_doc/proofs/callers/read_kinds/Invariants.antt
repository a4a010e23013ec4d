use Rattle.std.proofs.Common.{◌≡◌, ◌++◌}
use Rattle.serde_json.specs.View.{members_view}
use Rattle.policy_doc.specs.Paths.{path_text}
use Rattle.policy_doc.specs.Callers.{kinds_fault, kinds_named}
use Rattle.policy_doc.proofs.callers.read_kinds.Given as goal

abbrev pub invariant-loop-name : goal.invariant-loop-name
invariant-loop-name l = record {
  first : kinds_fault (path_text l.path) (members_view l.name-iterator) ≡ kinds_fault (path_text l.path) (members_view l.map.entries);
  names : l.names.items ++ kinds_named (members_view l.name-iterator) ≡ kinds_named (members_view l.map.entries);
}
