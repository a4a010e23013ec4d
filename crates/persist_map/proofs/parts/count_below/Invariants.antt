use Rattle.std.proofs.Common.{◌-◌, ◌+◌, ◌≤◌, map, length}
use Rattle.std.specs.Arc.{arc_value}
use Rattle.persist_map.specs.Digits.{binary_digits}
use Rattle.persist_map.specs.Pairs.{is_below}
use Rattle.persist_map.proofs.Halving.{IsNarrowed}
use Rattle.persist_map.proofs.parts.count_below.Given as goal

abbrev pub invariant-loop-low : goal.invariant-loop-low
invariant-loop-low g l = record {
  known : IsNarrowed (is_below g.K.Ord.cmp l.key) (map arc_value l.pairs) l.low l.high;
  cost : l.steps + binary_digits (l.high - l.low) ≤ l.initial.steps + binary_digits (length l.pairs);
}

abbrev pub decreases-loop-low : goal.decreases-loop-low
decreases-loop-low g l = l.high - l.low
