-- What entries do to the aliases of an account (AWS KMS API Reference, CreateAlias, UpdateAlias and DeleteAlias).
use Rattle.std.specs.Prelude.{ℕ, List, Option, Some, None}
use Rattle.key_states.specs.declared.rows.KeyRow.{KeyRow}
use Rattle.alias_map.specs.declared.rows.AliasRow.{AliasRow}
use Rattle.alias_map.specs.Aliases.{row_named, with_row, without, without_keys}
use Rattle.account_rows.specs.declared.entries.What.{What}
use Rattle.account_rows.specs.declared.entries.What.TheVariants.{AliasPut, AliasDrop, House}
use Rattle.account_rows.specs.Changes.{gone_keys}

-- an alias that is put: made here and now where none has its name, and as old as that one otherwise
abbrev pub put_row : ℕ → ℕ → List ℕ → List ℕ → Option AliasRow → AliasRow
put_row place time name key None = record { name = name; born = place; made = time; updated = time; key = key }
put_row place time name key (Some old) = record { name = name; born = old.born; made = old.made; updated = time; key = key }

-- the aliases with one that is put: in the place of that of its name, or behind all
abbrev pub with_alias : ℕ → ℕ → List ℕ → List ℕ → List AliasRow → List AliasRow
with_alias place time name key aliases = with_row aliases (put_row place time name key (row_named aliases name))

-- what is done to the aliases: one is put, the one of a name is dropped, or housekeeping at a time
pub data AliasChange : Type 0 where
  puts : List ℕ → List ℕ → AliasChange
  drops : List ℕ → AliasChange
  houses : AliasChange

-- what an entry does to the aliases, where it touches them
abbrev pub alias_change : What → Option AliasChange
alias_change (AliasPut name key) = Some (puts name key)
alias_change (AliasDrop name) = Some (drops name)
alias_change House = Some houses
alias_change _ = None

-- housekeeping removes the aliases of the keys that are gone
abbrev pub aliases_by : ℕ → ℕ → List KeyRow → Option AliasChange → List AliasRow → List AliasRow
aliases_by place time keys None aliases = aliases
aliases_by place time keys (Some (puts name key)) aliases = with_alias place time name key aliases
aliases_by place time keys (Some (drops name)) aliases = without aliases name
aliases_by place time keys (Some houses) aliases = without_keys aliases (gone_keys time keys)

-- the aliases of an account with these keys behind an entry at this place and time
abbrev pub aliases_after : ℕ → ℕ → What → List KeyRow → List AliasRow → List AliasRow
aliases_after place time what keys aliases = aliases_by place time keys (alias_change what) aliases
