use Rattle.std.proofs.Common.{Bor, ◌&&◌, true, Some, None, ◌∙◌, ap, subst}
use Rattle.std.specs.Option.{option_map}
use Rattle.persist_map.proofs.GroupFacts.{all_behind}
use Rattle.grant_table.specs.Grants.{is_of_key, grant_of_key, AreGrants}
use Rattle.grant_table.specs.declared.rows.GrantRow.{GrantRow}
use Rattle.grant_table.proofs.KeyFacts.{own_row}
use Rattle.grant_table.proofs.LookUps.{first_behind, first_of, first_of_none}
use Rattle.grant_table.proofs.tables.GrantTable.first_of_key.Goals as goal

pub returns-in_err-row-clause-first : goal.returns-in_err-row-clause-first
returns-in_err-row-clause-first c =
    let key = c.args.key.now in
    ap (option_map (λ (row : Bor GrantRow). row.now)) c.from_residual.ensures
    ∙ first_of_none c.group.result c.in_err-row.ensures.steps.0
    ∙ first_behind (is_of_key key) c.self.inside.rows c.self.invariant.places None c.group.result (c.group.ensures.pairs ∙ c.self.invariant.keys key ∙ all_behind _)
    ∙ ap (λ rows. grant_of_key rows key None) c.self.view_is

pub returns-in_err-row-clause-grants : goal.returns-in_err-row-clause-grants
returns-in_err-row-clause-grants c = subst AreGrants c.self.view_is c.self.invariant.grants

pub returns-clause-first : goal.returns-clause-first
returns-clause-first c =
    let key = c.args.key.now in
    ap Some c.value.ensures
    ∙ first_of c.group.result c.next.new.self (c.in_ok-row.field-0-0.now, c.in_ok-row.row.now) c.in_ok-row.ensures.steps
    ∙ first_behind (is_of_key key) c.self.inside.rows c.self.invariant.places None c.group.result (c.group.ensures.pairs ∙ c.self.invariant.keys key ∙ all_behind _)
    ∙ ap (λ rows. grant_of_key rows key None) c.self.view_is

pub returns-clause-own : goal.returns-clause-own
returns-clause-own c = own_row (λ row. is_of_key c.args.key.now row && true) c.args.self.now (subst AreGrants c.self.view_is c.self.invariant.grants) (Some c.value.result) (returns-clause-first c)

pub returns-clause-grants : goal.returns-clause-grants
returns-clause-grants c = subst AreGrants c.self.view_is c.self.invariant.grants
