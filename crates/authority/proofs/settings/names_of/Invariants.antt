use Rattle.std.proofs.Common.{◌≡◌, ◌++◌, map}
use Rattle.alias_map.specs.declared.rows.AliasRow.{AliasRow}
use Rattle.authority.specs.Setting.{names_of}
use Rattle.authority.proofs.settings.names_of.Given as goal

abbrev pub invariant-loop-row : goal.invariant-loop-row
invariant-loop-row l = l.names.items ++ map (λ (row : AliasRow). row.name) l.row-iterator ≡ names_of l.key l.aliases
