use Rattle.std.proofs.Common.{◌≡◌, ◌-◌, drop, length}
use Rattle.std.specs.List.{list_all}
use Rattle.sigv4_check.specs.Parts.{parts_at}
use Rattle.sigv4_check.specs.Fields.{fields_in}
use Rattle.sigv4_check.specs.SignedNames.{is_signed_if_amz}
use Rattle.sigv4_check.proofs.signed_names.are_amz_signed.Given as goal

abbrev pub invariant-loop-field : goal.invariant-loop-field
invariant-loop-field l =
    list_all (is_signed_if_amz (parts_at 59 l.names)) (drop l.i (fields_in l.buffer l.cut)) ≡ list_all (is_signed_if_amz (parts_at 59 l.names)) (fields_in l.buffer l.cut)

abbrev pub decreases-loop-field : goal.decreases-loop-field
decreases-loop-field l = length (fields_in l.buffer l.cut) - l.i
