use Rattle.std.proofs.Common.{◌≡◌, take}
use Rattle.authority.proofs.identities.PolicyList.compile.Given as goal

abbrev pub invariant-loop-policy : goal.invariant-loop-policy
invariant-loop-policy l = l.all.items ≡ take l.policy-index l.policy-items
