use Rattle.std.proofs.Common.{◌≡◌, ◌++◌, drop}
use Rattle.std.specs.Option.{option_map}
use Rattle.serde_json.specs.View.{items_view}
use Rattle.kms_json.specs.Fields.{texts_in_items}
use Rattle.journal_lines.proofs.readings.names_of.Given as goal

abbrev pub invariant-loop-item : goal.invariant-loop-item
invariant-loop-item l = texts_in_items (items_view l.items) ≡ option_map (λ more. l.names.items ++ more) (texts_in_items (items_view (drop l.item-index l.items)))
