use Rattle.std.proofs.Common.{◌≡◌, [], ◌∷◌, length}
use Rattle.grant_table.specs.Grants.{without_keys}
use Rattle.grant_table.proofs.tables.GrantTable.without_key.Given as goal

abbrev pub invariant-loop-row : goal.invariant-loop-row
invariant-loop-row l = without_keys l.table (l.key ∷ []) ≡ without_keys l.self (l.key ∷ [])

abbrev pub decreases-loop-row : goal.decreases-loop-row
decreases-loop-row l = length l.table
