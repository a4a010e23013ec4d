use Rattle.std.proofs.Common.{Bor, ℕ, ◌&&◌, true, [], None, Some, ◌∙◌, ap, sym, refl, rules, tests}
use Rattle.std.specs.Option.{option_map}
use Rattle.std.specs.Str.{bytes_eq}
use Rattle.std.proofs.lemmas.Iterator.Consumers.{YieldsList-from_first}
use Rattle.std.proofs.lemmas.Iterator.Search.{find_from_yields_List}
use Rattle.kms_names.specs.GrantOps.{contains}
use Rattle.kms_names.specs.declared.operations.GrantOp.TheVariants.{CreateGrant}
use Rattle.grant_table.specs.Grants.{permits, is_parent, is_child_of}
use Rattle.grant_table.specs.Principals.{same_principal}
use Rattle.grant_table.specs.Tables.{is_of_grantee}
use Rattle.grant_table.specs.declared.rows.GrantRow.{GrantRow}
use Rattle.grant_table.proofs.LookUps.{first_found, first_seen, seen, row_seen, only_grantee, and_first}
use Rattle.grant_table.proofs.tables.GrantTable.parent_of.Goals as goal

pub returns-in_err-grants : goal.returns-in_err-grants
returns-in_err-grants c =
    let key = c.args.key.now in
    let caller = c.args.caller.now in
    let operations = c.args.operations.now in
    let constraint = c.args.constraint.now in
    ap (option_map (λ (row : Bor GrantRow). row.now)) c.from_residual.ensures
    ∙ first_found (is_parent key caller operations constraint) (is_of_grantee key caller) (λ row e. only_grantee (bytes_eq row.key key) (same_principal row.grantee caller) (contains row.operations CreateGrant && true) (and_first (permits key caller CreateGrant [] row) (is_child_of row operations constraint) e)) c.args.self.now [] c.in_err-grants.ensures None refl

pub returns-in_err-row : goal.returns-in_err-row
returns-in_err-row c =
    let key = c.args.key.now in
    let caller = c.args.caller.now in
    let operations = c.args.operations.now in
    let constraint = c.args.constraint.now in
    ap (option_map (λ (row : Bor GrantRow). row.now)) c.from_residual-in_err-row.ensures ∙ sym (ap (option_map row_seen) c.in_err-row.was)
    ∙ first_seen (is_parent key caller operations constraint) (is_of_grantee key caller) (λ row e. only_grantee (bytes_eq row.key key) (same_principal row.grantee caller) (contains row.operations CreateGrant && true) (and_first (permits key caller CreateGrant [] row) (is_child_of row operations constraint) e)) c.args.self.now c.in_ok-grants.grants c.in_ok-grants.ensures c.find.result
    (find_from_yields_List (λ (pair : ℕ × GrantRow). is_parent key caller operations constraint pair.1) _ _ c.find.result c.find.ensures.ran (YieldsList-from_first seen (λ rest. rest) c.in_ok-grants.grants refl) (λ x b q k. search (rules, tests)))

pub returns : goal.returns
returns c =
    let key = c.args.key.now in
    let caller = c.args.caller.now in
    let operations = c.args.operations.now in
    let constraint = c.args.constraint.now in
    ap Some c.value.ensures ∙ sym (ap (option_map row_seen) c.in_ok-row.was)
    ∙ first_seen (is_parent key caller operations constraint) (is_of_grantee key caller) (λ row e. only_grantee (bytes_eq row.key key) (same_principal row.grantee caller) (contains row.operations CreateGrant && true) (and_first (permits key caller CreateGrant [] row) (is_child_of row operations constraint) e)) c.args.self.now c.in_ok-grants.grants c.in_ok-grants.ensures c.find.result
    (find_from_yields_List (λ (pair : ℕ × GrantRow). is_parent key caller operations constraint pair.1) _ _ c.find.result c.find.ensures.ran (YieldsList-from_first seen (λ rest. rest) c.in_ok-grants.grants refl) (λ x b q k. search (rules, tests)))
