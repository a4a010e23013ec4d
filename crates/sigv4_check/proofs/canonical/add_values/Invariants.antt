use Rattle.std.proofs.Common.{◌-◌, drop, length}
use Rattle.http_front.specs.Heading.{values_in}
use Rattle.sigv4_check.specs.Fields.{fields_in}
use Rattle.sigv4_check.specs.Canonical.{canonical_values}
use Rattle.sigv4_check.proofs.ValueFacts.{ValuesReach}
use Rattle.sigv4_check.proofs.canonical.add_values.Given as goal

abbrev pub invariant-loop-field : goal.invariant-loop-field
invariant-loop-field l =
    ValuesReach l.fn.hasher l.hasher (canonical_values (fields_in l.buffer l.cut) l.name) l.is_first (values_in l.name (drop l.i (fields_in l.buffer l.cut)))

abbrev pub decreases-loop-field : goal.decreases-loop-field
decreases-loop-field l = length (fields_in l.buffer l.cut) - l.i
