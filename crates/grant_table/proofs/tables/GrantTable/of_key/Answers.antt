use Rattle.std.proofs.Common.{Bor, Some, ◌∙◌, ap}
use Rattle.std.specs.Option.{option_map}
use Rattle.persist_map.specs.Groups.{pairs_behind}
use Rattle.grant_table.specs.Grants.{is_of_key, grant_of_key}
use Rattle.grant_table.specs.declared.rows.GrantRow.{GrantRow}
use Rattle.grant_table.proofs.LookUps.{first_behind, first_of, first_of_none}
use Rattle.grant_table.proofs.tables.GrantTable.of_key.Goals as goal

pub returns-in_err-row : goal.returns-in_err-row
returns-in_err-row c =
    let key = c.args.key.now in
    let after = c.args.after in
    ap (option_map (λ (row : Bor GrantRow). row.now)) c.from_residual.ensures
    ∙ first_of_none c.group_behind.result c.in_err-row.ensures.steps.0
    ∙ first_behind (is_of_key key) c.self.inside.rows c.self.invariant.places after c.group_behind.result (c.group_behind.ensures.pairs ∙ ap (λ l. pairs_behind l after) (c.self.invariant.keys key))
    ∙ ap (λ rows. grant_of_key rows key after) c.self.view_is

pub returns : goal.returns
returns c =
    let key = c.args.key.now in
    let after = c.args.after in
    ap Some c.value.ensures
    ∙ first_of c.group_behind.result c.next.new.self (c.in_ok-row.field-0-0.now, c.in_ok-row.row.now) c.in_ok-row.ensures.steps
    ∙ first_behind (is_of_key key) c.self.inside.rows c.self.invariant.places after c.group_behind.result (c.group_behind.ensures.pairs ∙ ap (λ l. pairs_behind l after) (c.self.invariant.keys key))
    ∙ ap (λ rows. grant_of_key rows key after) c.self.view_is
