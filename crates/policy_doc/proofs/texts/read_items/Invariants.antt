use Rattle.std.proofs.Common.{◌≡◌, ◌++◌, drop}
use Rattle.serde_json.specs.View.{items_view}
use Rattle.policy_doc.specs.Paths.{path_text}
use Rattle.policy_doc.specs.Texts.{items_fault, items_of}
use Rattle.policy_doc.proofs.texts.read_items.Given as goal

abbrev pub invariant-loop-index : goal.invariant-loop-index
invariant-loop-index l = record {
  first : items_fault l.form (path_text l.path) l.index (items_view (drop l.index l.items)) ≡ items_fault l.form (path_text l.path) 0 (items_view l.items);
  texts : l.texts.items ++ items_of l.form (items_view (drop l.index l.items)) ≡ items_of l.form (items_view l.items);
}
