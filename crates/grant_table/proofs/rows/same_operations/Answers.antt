use Rattle.std.proofs.Common.{sym, ◌∙◌}
use Rattle.grant_table.proofs.GrantFacts.{is_subset_is, and_after, and_without}
use Rattle.grant_table.proofs.rows.same_operations.Goals as goal

pub returns-then-is_subset : goal.returns-then-is_subset
returns-then-is_subset c =
    let subset = is_subset_is c.args.one.now c.args.other.now c.is_subset.result c.is_subset.ensures in
    let superset = is_subset_is c.args.other.now c.args.one.now c.is_subset-then-is_subset.result c.is_subset-then-is_subset.ensures in
    and_after _ _ c.is_subset-then-is_subset.result (sym subset ∙ c.if-is_subset.true) superset

pub returns-else-is_subset : goal.returns-else-is_subset
returns-else-is_subset c =
    let subset = is_subset_is c.args.one.now c.args.other.now c.is_subset.result c.is_subset.ensures in
    and_without _ _ c.is_subset.result (sym subset ∙ c.if-is_subset.false) c.if-is_subset.false
