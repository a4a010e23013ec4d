use Rattle.std.proofs.Common.{◌≡◌, length}
use Rattle.sigv4_check.specs.Credentials.{are_distinct}
use Rattle.sigv4_check.proofs.credentials.are_distinct.Given as goal

abbrev pub invariant-loop-credential : goal.invariant-loop-credential
invariant-loop-credential l = are_distinct l.rest ≡ are_distinct l.creds

abbrev pub decreases-loop-credential : goal.decreases-loop-credential
decreases-loop-credential l = length l.rest
