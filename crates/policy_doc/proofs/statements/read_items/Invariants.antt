use Rattle.std.proofs.Common.{◌≡◌, ◌++◌, drop}
use Rattle.serde_json.specs.View.{items_view}
use Rattle.policy_doc.specs.Paths.{path_text}
use Rattle.policy_doc.specs.Statements.{items_fault, items_of}
use Rattle.policy_doc.proofs.statements.read_items.Given as goal

abbrev pub invariant-loop-index : goal.invariant-loop-index
invariant-loop-index l = record {
  first : items_fault l.kind (path_text l.path) l.index (items_view (drop l.index l.items)) ≡ items_fault l.kind (path_text l.path) 0 (items_view l.items);
  statements : l.statements.items ++ items_of l.kind (items_view (drop l.index l.items)) ≡ items_of l.kind (items_view l.items);
}
