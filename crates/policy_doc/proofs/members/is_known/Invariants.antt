use Rattle.std.proofs.Common.{◌≡◌, drop, map}
use Rattle.policy_doc.specs.Names.{is_known}
use Rattle.policy_doc.proofs.members.is_known.Given as goal

abbrev pub invariant-loop-known : goal.invariant-loop-known
invariant-loop-known l = is_known (map (λ known. known.now) (drop l.known-index l.names)) l.name ≡ is_known (map (λ known. known.now) l.names) l.name
