use Rattle.access_explain.proofs.grants.next_grant.Goals as goal

pub returns-clause-order : goal.returns-clause-order
returns-clause-order c = (c.rows_stand_in_order.ensures c.args.account.now.facts c.args.account.now.entries c.entries-entries.ensures.held).grants
