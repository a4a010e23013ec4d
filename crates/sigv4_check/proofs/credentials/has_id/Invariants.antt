use Rattle.std.proofs.Common.{◌≡◌, drop}
use Rattle.sigv4_check.specs.Credentials.{has_id}
use Rattle.sigv4_check.proofs.credentials.has_id.Given as goal

abbrev pub invariant-loop-credential : goal.invariant-loop-credential
invariant-loop-credential l = has_id l.id (drop l.credential-index l.creds) ≡ has_id l.id l.creds
