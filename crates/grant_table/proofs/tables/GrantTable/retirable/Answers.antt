use Rattle.std.proofs.Common.{Bor, Some, ◌∙◌, ap}
use Rattle.std.specs.Option.{option_map}
use Rattle.persist_map.specs.Groups.{pairs_behind}
use Rattle.grant_table.specs.Grants.{has_retiring, grant_retirable}
use Rattle.grant_table.specs.declared.rows.GrantRow.{GrantRow}
use Rattle.grant_table.proofs.LookUps.{first_behind, first_of, first_of_none}
use Rattle.grant_table.proofs.tables.GrantTable.retirable.Goals as goal

pub returns-in_err-row : goal.returns-in_err-row
returns-in_err-row c =
    let retiring = c.args.retiring.now in
    let after = c.args.after in
    ap (option_map (λ (row : Bor GrantRow). row.now)) c.from_residual.ensures
    ∙ first_of_none c.group_behind.result c.in_err-row.ensures.steps.0
    ∙ first_behind (has_retiring retiring) c.self.inside.rows c.self.invariant.places after c.group_behind.result (c.group_behind.ensures.pairs ∙ ap (λ l. pairs_behind l after) (c.self.invariant.retiring retiring))
    ∙ ap (λ rows. grant_retirable rows retiring after) c.self.view_is

pub returns : goal.returns
returns c =
    let retiring = c.args.retiring.now in
    let after = c.args.after in
    ap Some c.value.ensures
    ∙ first_of c.group_behind.result c.next.new.self (c.in_ok-row.field-0-0.now, c.in_ok-row.row.now) c.in_ok-row.ensures.steps
    ∙ first_behind (has_retiring retiring) c.self.inside.rows c.self.invariant.places after c.group_behind.result (c.group_behind.ensures.pairs ∙ ap (λ l. pairs_behind l after) (c.self.invariant.retiring retiring))
    ∙ ap (λ rows. grant_retirable rows retiring after) c.self.view_is
