-- The part fits at none of the places that were looked at.
use Rattle.std.proofs.Common.{◌≡◌, ◌+◌, ◌-◌, ◌*◌, ◌/◌, ◌<◌, ◌≤◌, ℕ, false, drop, length}
use Rattle.glob_patterns.specs.Fits.{fits}
use Rattle.glob_patterns.specs.Letters.{letters, read_as}
use Rattle.glob_patterns.proofs.fitting.first_place.Given as goal

abbrev pub invariant-loop-start : goal.invariant-loop-start
invariant-loop-start g l = record {
  within : l.start ≤ l.places;
  earlier : (k : ℕ) → k < l.start → fits (letters l.case l.segment) (drop k (read_as l.case l.units)) ≡ false;
  cost : l.steps + (length (letters l.case l.segment) + 1) * ((l.places - l.start + 255) / 256) ≤ l.initial.steps + (length (letters l.case l.segment) + 1) * ((l.places + 255) / 256);
}

abbrev pub decreases-loop-start : goal.decreases-loop-start
decreases-loop-start g l = l.places - l.start
