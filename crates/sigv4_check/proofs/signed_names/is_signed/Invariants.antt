use Rattle.std.proofs.Common.{◌≡◌, length}
use Rattle.sigv4_check.specs.Parts.{parts_at}
use Rattle.sigv4_check.specs.SignedNames.{is_signed}
use Rattle.sigv4_check.proofs.signed_names.is_signed.Given as goal

abbrev pub invariant-loop-signed : goal.invariant-loop-signed
invariant-loop-signed l = is_signed (parts_at 59 l.rest) l.name ≡ is_signed (parts_at 59 l.names) l.name

abbrev pub decreases-loop-signed : goal.decreases-loop-signed
decreases-loop-signed l = length l.rest
