use Rattle.std.proofs.Common.{Bor, ℕ, ◌&&◌, ◌||◌, not, [], None, Some, ◌∙◌, ap, sym, refl, rules, tests}
use Rattle.std.specs.Option.{option_map}
use Rattle.std.specs.Str.{bytes_eq}
use Rattle.std.proofs.lemmas.Iterator.Consumers.{YieldsList-from_first}
use Rattle.std.proofs.lemmas.Iterator.Search.{find_from_yields_List}
use Rattle.kms_names.specs.GrantOps.{contains}
use Rattle.grant_table.specs.Constraints.{constraint_holds}
use Rattle.grant_table.specs.Grants.{asks_constraint, permits}
use Rattle.grant_table.specs.Principals.{same_principal}
use Rattle.grant_table.specs.Tables.{is_of_grantee}
use Rattle.grant_table.specs.declared.rows.GrantRow.{GrantRow}
use Rattle.grant_table.proofs.LookUps.{first_found, first_seen, seen, row_seen, only_grantee}
use Rattle.grant_table.proofs.PermitFacts.{none_permits}
use Rattle.grant_table.proofs.tables.GrantTable.permitting.Goals as goal

pub returns-in_err-grants-clause-first : goal.returns-in_err-grants-clause-first
returns-in_err-grants-clause-first c =
    let key = c.args.key.now in
    let caller = c.args.caller.now in
    let op = c.args.op in
    let context = c.args.context.now in
    ap (option_map (λ (row : Bor GrantRow). row.now)) c.from_residual.ensures
    ∙ first_found (permits key caller op context) (is_of_grantee key caller) (λ row. only_grantee (bytes_eq row.key key) (same_principal row.grantee caller) (contains row.operations op && (not (asks_constraint op) || constraint_holds row.constraint context))) c.args.self.now [] c.in_err-grants.ensures None refl

pub returns-in_err-row-clause-first : goal.returns-in_err-row-clause-first
returns-in_err-row-clause-first c =
    let key = c.args.key.now in
    let caller = c.args.caller.now in
    let op = c.args.op in
    let context = c.args.context.now in
    ap (option_map (λ (row : Bor GrantRow). row.now)) c.from_residual-in_err-row.ensures ∙ sym (ap (option_map row_seen) c.in_err-row.was)
    ∙ first_seen (permits key caller op context) (is_of_grantee key caller) (λ row. only_grantee (bytes_eq row.key key) (same_principal row.grantee caller) (contains row.operations op && (not (asks_constraint op) || constraint_holds row.constraint context))) c.args.self.now c.in_ok-grants.grants c.in_ok-grants.ensures c.find.result
    (find_from_yields_List (λ (pair : ℕ × GrantRow). permits key caller op context pair.1) _ _ c.find.result c.find.ensures.ran (YieldsList-from_first seen (λ rest. rest) c.in_ok-grants.grants refl) (λ x b q k. search (rules, tests)))

pub returns-clause-first : goal.returns-clause-first
returns-clause-first c =
    let key = c.args.key.now in
    let caller = c.args.caller.now in
    let op = c.args.op in
    let context = c.args.context.now in
    ap Some c.value.ensures ∙ sym (ap (option_map row_seen) c.in_ok-row.was)
    ∙ first_seen (permits key caller op context) (is_of_grantee key caller) (λ row. only_grantee (bytes_eq row.key key) (same_principal row.grantee caller) (contains row.operations op && (not (asks_constraint op) || constraint_holds row.constraint context))) c.args.self.now c.in_ok-grants.grants c.in_ok-grants.ensures c.find.result
    (find_from_yields_List (λ (pair : ℕ × GrantRow). permits key caller op context pair.1) _ _ c.find.result c.find.ensures.ran (YieldsList-from_first seen (λ rest. rest) c.in_ok-grants.grants refl) (λ x b q k. search (rules, tests)))

pub returns-in_err-grants-clause-none : goal.returns-in_err-grants-clause-none
returns-in_err-grants-clause-none c = none_permits c.args.self.now c.args.key.now c.args.caller.now c.args.op c.args.context.now c.from_residual.result (returns-in_err-grants-clause-first c)

pub returns-in_err-row-clause-none : goal.returns-in_err-row-clause-none
returns-in_err-row-clause-none c = none_permits c.args.self.now c.args.key.now c.args.caller.now c.args.op c.args.context.now c.from_residual-in_err-row.result (returns-in_err-row-clause-first c)
