use Rattle.std.proofs.Common.{◌<◌, ◌&&◌, true, List, [], ◌∷◌, length, ◌∙◌, ap, sym, subst}
use Rattle.grant_table.specs.Grants.{is_of_key, without_keys}
use Rattle.grant_table.specs.declared.rows.GrantRow.{GrantRow}
use Rattle.grant_table.proofs.Lists.{found_passes}
use Rattle.grant_table.proofs.LookUps.{and_first}
use Rattle.grant_table.proofs.KeyFacts.{fewer, key_stays, none_of_key}
use Rattle.grant_table.proofs.tables.GrantTable.without_key.Goals as goal

pub loop-row-smaller : goal.loop-row-smaller
loop-row-smaller c =
    subst (λ (rows : List GrantRow). length rows < length c.loop-row.table) (sym c.in_ok-table-2.ensures) (fewer c.in-Some.row.now.grant c.loop-row.table c.in-Some.row.now c.in-Some.ensures.own)

pub loop-row-preserved : goal.loop-row-preserved
loop-row-preserved c =
    let key = c.args.key.now in
    let row = c.in-Some.row.now in
    ap (λ rows. without_keys rows (key ∷ [])) c.in_ok-table-2.ensures
    ∙ key_stays key c.loop-row.table row c.in-Some.ensures.grants c.in-Some.ensures.own (and_first (is_of_key key row) true (found_passes (λ row. is_of_key key row && true) c.loop-row.table row (sym c.in-Some.ensures.first)))
    ∙ c.loop-row.invariant

pub returns : goal.returns
returns c = sym (none_of_key c.args.key.now c.loop-row.table (sym c.in_default.ensures.first)) ∙ c.loop-row.invariant
