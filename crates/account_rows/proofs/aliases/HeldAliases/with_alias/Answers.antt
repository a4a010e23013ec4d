use Rattle.std.proofs.Common.{List, subst, sym}
use Rattle.alias_map.specs.declared.rows.AliasRow.{AliasRow}
use Rattle.alias_map.specs.Aliases.{AreBefore, MayPut}
use Rattle.account_rows.proofs.AliasFacts.{may_put}
use Rattle.account_rows.proofs.aliases.HeldAliases.with_alias.Goals as goal

pub put-requires : goal.put-requires
put-requires c =
    let map = c.map-map.result.now in
    let before = subst (λ (rows : List AliasRow). AreBefore rows c.args.place) (sym c.map-map.ensures) c.requires in
    subst (λ (row : AliasRow). MayPut map row) (sym c.in_ok-row.ensures) (may_put c.args.place c.args.time c.args.name.now c.args.key.now map before)
