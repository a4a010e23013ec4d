use Rattle.std.proofs.Common.{length, ap, ◌∙◌}
use Rattle.grant_table.specs.Grants.{is_of_key, number_of_key}
use Rattle.grant_table.proofs.LookUps.{number_of}
use Rattle.grant_table.proofs.tables.GrantTable.number_of_key.Goals as goal

pub returns : goal.returns
returns c =
    let key = c.args.key.now in
    c.group_len.ensures ∙ ap length (c.self.invariant.keys key) ∙ number_of (is_of_key key) c.self.inside.rows ∙ ap (λ rows. number_of_key rows key) c.self.view_is
