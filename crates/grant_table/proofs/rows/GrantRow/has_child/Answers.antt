use Rattle.std.proofs.Common.{sym, ◌∙◌}
use Rattle.grant_table.proofs.GrantFacts.{is_subset_is, and_after, and_without}
use Rattle.grant_table.proofs.rows.GrantRow.has_child.Goals as goal

pub returns-then-is_subset-clause-test : goal.returns-then-is_subset-clause-test
returns-then-is_subset-clause-test c =
    let subset = is_subset_is c.args.operations.now c.args.self.now.operations c.is_subset.result c.is_subset.ensures in
    and_after _ _ c.is_as_strict.result (sym subset ∙ c.if-is_subset.true) c.is_as_strict.ensures.test

pub returns-else-is_subset-clause-test : goal.returns-else-is_subset-clause-test
returns-else-is_subset-clause-test c =
    let subset = is_subset_is c.args.operations.now c.args.self.now.operations c.is_subset.result c.is_subset.ensures in
    and_without _ _ c.is_subset.result (sym subset ∙ c.if-is_subset.false) c.if-is_subset.false
