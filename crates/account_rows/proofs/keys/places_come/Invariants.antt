use Rattle.std.proofs.Common.{◌≡◌, ◌++◌}
use Rattle.persist_map.specs.Pairs.{Ascends}
use Rattle.account_rows.specs.Keys.{places_come}
use Rattle.account_rows.proofs.DateFacts.{due_cmp}
use Rattle.account_rows.proofs.keys.places_come.Given as goal

abbrev pub invariant-loop-due : goal.invariant-loop-due
invariant-loop-due l = (l.places.items ++ places_come l.time l.due-iterator ≡ places_come l.time l.dates) × Ascends due_cmp l.due-iterator
