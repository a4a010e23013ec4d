use Rattle.std.proofs.Common.{◌≡◌, length}
use Rattle.sigv4_check.specs.Parts.{parts_at}
use Rattle.sigv4_check.specs.Fields.{fields_in}
use Rattle.sigv4_check.specs.SignedNames.{are_signable}
use Rattle.sigv4_check.proofs.signed_names.are_signable.Given as goal

abbrev pub invariant-loop-name : goal.invariant-loop-name
invariant-loop-name l = are_signable (fields_in l.buffer l.cut) (parts_at 59 l.rest) ≡ are_signable (fields_in l.buffer l.cut) (parts_at 59 l.names)

abbrev pub decreases-loop-name : goal.decreases-loop-name
decreases-loop-name l = length l.rest
