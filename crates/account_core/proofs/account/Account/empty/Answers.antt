use Rattle.account_core.proofs.Histories.{held_nothing}
use Rattle.account_core.proofs.account.Account.empty.Goals as goal

pub invariant_of-result : goal.invariant_of-result
invariant_of-result c = held_nothing c.in_ok-new.field-0 c.in_ok-rows.rows c.in_ok-rows.ensures
