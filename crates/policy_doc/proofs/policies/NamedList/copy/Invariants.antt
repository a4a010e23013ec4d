use Rattle.std.proofs.Common.{◌≡◌, take}
use Rattle.policy_doc.proofs.policies.NamedList.copy.Given as goal

abbrev pub invariant-loop-named : goal.invariant-loop-named
invariant-loop-named l = l.items.items ≡ take l.named-index l.named-items
