use Rattle.std.proofs.Common.{true, false}
use Rattle.policy_eval.proofs.GroupFacts.{covers_none}
use Rattle.policy_eval.proofs.groups.Group.with_capacity.Goals as goal

pub invariant_of-result : goal.invariant_of-result
invariant_of-result c = rw c.in_ok-with_capacity.ensures.items (covers_none false c.new.result, covers_none true c.new-2.result)
