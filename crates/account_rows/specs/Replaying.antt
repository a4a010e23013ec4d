-- How the code's changes of rows are seen.
use Rattle.std.specs.Prelude.{◌<◌, length, Option, Some, None, true}
use Rattle.key_states.specs.declared.rows.KeyRow.{KeyRow}
use Rattle.account_rows.specs.declared.replay.Change.{Change}
use Rattle.account_rows.specs.declared.replay.Change.TheVariants as change
use Rattle.account_rows.specs.Changes.{with_stored, with_period, with_version, with_policy, with_description, tagged, untagged}
use Rattle.account_rows.specs.History.{TagsFitOn}

-- one rotation more can be counted
pub record CanTurn (row : KeyRow) : Type 0 where
  pub on_demand : row.on_demand < 4294967295
  pub versions : length row.versions < 4294967295

abbrev pub change_by : Change → KeyRow → KeyRow
change_by (change.Stored stored) row = with_stored stored row
change_by (change.Period days next) row = with_period (Some days) next row
change_by change.NoPeriod row = with_period None row.next row
change_by (change.Version time) row = with_version time true row.next row
change_by (change.Policy text) row = with_policy text.now row
change_by (change.Description text) row = with_description text.now row
change_by (change.Tag tags) row = tagged tags.now row
change_by (change.Untag keys) row = untagged keys.now row

-- at most 50 tags stand behind the change on the row that it is of, where there is one
abbrev pub MayChange : Change → Option KeyRow → Type 0
MayChange (change.Tag tags) row = TagsFitOn row tags.now
MayChange _ row = Unit {0}
