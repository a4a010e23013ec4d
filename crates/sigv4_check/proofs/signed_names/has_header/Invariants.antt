use Rattle.std.proofs.Common.{◌≡◌, ◌-◌, drop, length}
use Rattle.sigv4_check.specs.Fields.{fields_in}
use Rattle.sigv4_check.specs.SignedNames.{has_header}
use Rattle.sigv4_check.proofs.signed_names.has_header.Given as goal

abbrev pub invariant-loop-field : goal.invariant-loop-field
invariant-loop-field l = has_header (drop l.i (fields_in l.buffer l.cut)) l.name ≡ has_header (fields_in l.buffer l.cut) l.name

abbrev pub decreases-loop-field : goal.decreases-loop-field
decreases-loop-field l = length (fields_in l.buffer l.cut) - l.i
