use Rattle.std.proofs.Common.{◌≡◌, ◌∙◌, ap}
use Rattle.std.specs.Cmp.Lexicographic.{slice_cmp}
use Rattle.std.specs.Ordering.{nat_cmp}
use Rattle.persist_map.specs.Pairs.{with_pair, value_at}
use Rattle.std.proofs.lemmas.Result.{IfOk-weaker}
use Rattle.kms_names.specs.declared.principals.Principal.{Principal}
use Rattle.persist_map.specs.Groups.{group_without}
use Rattle.grant_table.specs.Tables.{Keys}
use Rattle.grant_table.proofs.PrincipalFacts.{principal_cmp}
use Rattle.grant_table.proofs.GranteeFacts.{removed, removed_nothing, groups_found}
use Rattle.grant_table.proofs.grantees.Grantees.without_row.Goals as goal

pub returns : goal.returns
returns c =
    let row = c.args.row.now in
    let found = groups_found c.args.self.now c.self.inside.keys c.self.view_is row.key c.in-Some.groups.now c.in-Some.ensures in
    removed principal_cmp c.args.self.now row c.in_ok-insert.field-0 c.in_ok-groups.groups
    (λ grantee. c.in_ok-groups.ensures grantee ∙ ap (λ (who : Principal). group_without principal_cmp c.in-Some.groups.now who row.born grantee) c.in_ok-copy.ensures ∙ ap (λ l. group_without principal_cmp l row.grantee row.born grantee) found)
    (c.in_ok-insert.ensures ∙ ap (λ l. with_pair (slice_cmp nat_cmp) l row.key c.in_ok-groups.groups) c.self.view_is)

pub returns-in_default : goal.returns-in_default
returns-in_default c =
    IfOk-weaker c.share.result (λ changed. changed ≡ c.args.self.now) _
    (λ changed same. removed_nothing principal_cmp c.args.self.now c.args.row.now changed (c.in_default.ensures ∙ ap (λ (l : Keys). value_at (slice_cmp nat_cmp) l c.args.row.now.key) c.self.view_is) same) c.share.ensures
