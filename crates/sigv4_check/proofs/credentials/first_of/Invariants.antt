use Rattle.std.proofs.Common.{◌≡◌, drop}
use Rattle.sigv4_check.specs.Credentials.{credential_of}
use Rattle.sigv4_check.proofs.credentials.first_of.Given as goal

abbrev pub invariant-loop-credential : goal.invariant-loop-credential
invariant-loop-credential l = credential_of l.id (drop l.credential-index l.creds) ≡ credential_of l.id l.creds
