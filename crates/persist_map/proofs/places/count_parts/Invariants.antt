use Rattle.std.proofs.Common.{◌-◌, ◌+◌, ◌≤◌, map, length, not}
use Rattle.std.specs.Arc.{arc_value}
use Rattle.persist_map.specs.Digits.{binary_digits}
use Rattle.persist_map.specs.Parts.{begins_above}
use Rattle.persist_map.proofs.Halving.{IsNarrowed}
use Rattle.persist_map.proofs.places.count_parts.Given as goal

abbrev pub invariant-loop-low : goal.invariant-loop-low
invariant-loop-low g l = record {
  known : IsNarrowed (λ part. not (begins_above g.K.Ord.cmp l.key part)) (map arc_value l.parts) l.low l.high;
  cost : l.steps + binary_digits (l.high - l.low) ≤ l.initial.steps + binary_digits (length l.parts);
}

abbrev pub decreases-loop-low : goal.decreases-loop-low
decreases-loop-low g l = l.high - l.low
