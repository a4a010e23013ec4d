use Rattle.std.proofs.Common.{◌≡◌, take}
use Rattle.grant_table.specs.Grants.{without_keys}
use Rattle.grant_table.proofs.tables.GrantTable.without_keys.Given as goal

abbrev pub invariant-loop-key : goal.invariant-loop-key
invariant-loop-key l = l.table ≡ without_keys l.self (take l.key-index l.keys)
