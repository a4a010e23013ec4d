use Rattle.std.proofs.Common.{◌≡◌, ◌++◌, drop, None, if◌then◌else◌}
use Rattle.std.specs.Option.{option_map}
use Rattle.serde_json.specs.View.{items_view}
use Rattle.kms_json.specs.Fields.{tags_in_items}
use Rattle.kms_json.proofs.tags.tags_in.Given as goal

abbrev pub invariant-loop-item : goal.invariant-loop-item
invariant-loop-item l =
    tags_in_items (items_view l.items)
    ≡ option_map (λ rest. if l.all_there then option_map (λ more. l.tags.items ++ more) rest else None) (tags_in_items (items_view (drop l.item-index l.items)))
