use Rattle.std.proofs.Common.{Bor, ℕ, ◌&&◌, [], None, Some, ◌∙◌, ap, sym, refl, rules, tests}
use Rattle.std.specs.Option.{option_map}
use Rattle.std.specs.Str.{bytes_eq}
use Rattle.std.proofs.lemmas.Iterator.Consumers.{YieldsList-from_first}
use Rattle.std.proofs.lemmas.Iterator.Search.{find_from_yields_List}
use Rattle.grant_table.specs.Constraints.{same_constraint}
use Rattle.grant_table.specs.Grants.{is_same, has_name, same_retiring, same_operations}
use Rattle.grant_table.specs.Principals.{same_principal}
use Rattle.grant_table.specs.Tables.{is_of_grantee}
use Rattle.grant_table.specs.declared.rows.GrantRow.{GrantRow}
use Rattle.grant_table.proofs.LookUps.{first_found, first_seen, seen, row_seen, only_named}
use Rattle.grant_table.proofs.tables.GrantTable.same_as.Goals as goal

pub returns-in_err-grants : goal.returns-in_err-grants
returns-in_err-grants c =
    let key = c.args.key.now in
    let name = c.args.name.now in
    let grantee = c.args.grantee.now in
    let retiring = c.args.retiring.now in
    let operations = c.args.operations.now in
    let constraint = c.args.constraint.now in
    ap (option_map (λ (row : Bor GrantRow). row.now)) c.from_residual.ensures
    ∙ first_found (is_same key name grantee retiring operations constraint) (is_of_grantee key grantee) (λ row. only_named (bytes_eq row.key key) (has_name name row) (same_principal row.grantee grantee) (same_retiring row.retiring retiring && (same_operations row.operations operations && same_constraint row.constraint constraint))) c.args.self.now [] c.in_err-grants.ensures None refl

pub returns-in_err-row : goal.returns-in_err-row
returns-in_err-row c =
    let key = c.args.key.now in
    let name = c.args.name.now in
    let grantee = c.args.grantee.now in
    let retiring = c.args.retiring.now in
    let operations = c.args.operations.now in
    let constraint = c.args.constraint.now in
    ap (option_map (λ (row : Bor GrantRow). row.now)) c.from_residual-in_err-row.ensures ∙ sym (ap (option_map row_seen) c.in_err-row.was)
    ∙ first_seen (is_same key name grantee retiring operations constraint) (is_of_grantee key grantee) (λ row. only_named (bytes_eq row.key key) (has_name name row) (same_principal row.grantee grantee) (same_retiring row.retiring retiring && (same_operations row.operations operations && same_constraint row.constraint constraint))) c.args.self.now c.in_ok-grants.grants c.in_ok-grants.ensures c.find.result
    (find_from_yields_List (λ (pair : ℕ × GrantRow). is_same key name grantee retiring operations constraint pair.1) _ _ c.find.result c.find.ensures.ran (YieldsList-from_first seen (λ rest. rest) c.in_ok-grants.grants refl) (λ x b q k. search (rules, tests)))

pub returns : goal.returns
returns c =
    let key = c.args.key.now in
    let name = c.args.name.now in
    let grantee = c.args.grantee.now in
    let retiring = c.args.retiring.now in
    let operations = c.args.operations.now in
    let constraint = c.args.constraint.now in
    ap Some c.value.ensures ∙ sym (ap (option_map row_seen) c.in_ok-row.was)
    ∙ first_seen (is_same key name grantee retiring operations constraint) (is_of_grantee key grantee) (λ row. only_named (bytes_eq row.key key) (has_name name row) (same_principal row.grantee grantee) (same_retiring row.retiring retiring && (same_operations row.operations operations && same_constraint row.constraint constraint))) c.args.self.now c.in_ok-grants.grants c.in_ok-grants.ensures c.find.result
    (find_from_yields_List (λ (pair : ℕ × GrantRow). is_same key name grantee retiring operations constraint pair.1) _ _ c.find.result c.find.ensures.ran (YieldsList-from_first seen (λ rest. rest) c.in_ok-grants.grants refl) (λ x b q k. search (rules, tests)))
