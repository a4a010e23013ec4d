use Rattle.std.proofs.Common.{◌≡◌, take}
use Rattle.authority.proofs.identities.IdentityList.copy.Given as goal

abbrev pub invariant-loop-identity : goal.invariant-loop-identity
invariant-loop-identity l = l.items.items ≡ take l.identity-index l.identity-items
