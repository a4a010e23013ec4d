use Rattle.std.proofs.Common.{filter, ap, ◌∙◌}
use Rattle.grant_table.specs.Tables.{rows_of, is_of_grantee}
use Rattle.grant_table.proofs.Lists.{map_filter}
use Rattle.grant_table.proofs.tables.GrantTable.of_grantee.Goals as goal

pub returns : goal.returns
returns c =
    let key = c.args.key.now in
    let grantee = c.args.grantee.now in
    ap rows_of (c.group.ensures ∙ c.self.invariant.grantees key grantee) ∙ map_filter _ (is_of_grantee key grantee) c.self.inside.rows ∙ ap (filter (is_of_grantee key grantee)) c.self.view_is
