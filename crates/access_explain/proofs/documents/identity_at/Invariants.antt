use Rattle.std.proofs.Common.{◌≡◌, drop}
use Rattle.authority.specs.Setting.{identity_at}
use Rattle.access_explain.proofs.documents.identity_at.Given as goal

abbrev pub invariant-loop-identity : goal.invariant-loop-identity
invariant-loop-identity l = identity_at (drop l.identity-index l.identities) l.arn ≡ identity_at l.identities l.arn
