use Rattle.std.proofs.Common.{◌≡◌, ◌++◌, drop, map}
use Rattle.serde_json.specs.View.{view}
use Rattle.journal_lines.specs.Values.{tag_data}
use Rattle.journal_lines.proofs.values.tags_value.Given as goal

abbrev pub invariant-loop-tag : goal.invariant-loop-tag
invariant-loop-tag l = map view l.values.items ++ map tag_data (drop l.tag-index l.tags) ≡ map tag_data l.tags
