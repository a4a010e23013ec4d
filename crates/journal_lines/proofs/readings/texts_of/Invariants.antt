use Rattle.std.proofs.Common.{◌≡◌, ◌++◌, drop}
use Rattle.std.specs.Option.{option_map}
use Rattle.serde_json.specs.View.{items_view}
use Rattle.journal_lines.specs.Readings.{texts_of}
use Rattle.journal_lines.proofs.readings.texts_of.Given as goal

abbrev pub invariant-loop-item : goal.invariant-loop-item
invariant-loop-item l = texts_of (items_view l.items) ≡ option_map (λ more. l.texts.items ++ more) (texts_of (items_view (drop l.item-index l.items)))
