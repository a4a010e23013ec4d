-- What is left of the part has to fit where the whole has to.
use Rattle.std.proofs.Common.{◌≡◌, ◌+◌, ◌≤◌, drop, length}
use denote.Text.{Utf8}
use denote.Shadow.{shadow}
use Rattle.glob_patterns.specs.Fits.{fits}
use Rattle.glob_patterns.specs.Letters.{letters, read_as}
use Rattle.glob_patterns.proofs.fitting.fits_at.Given as goal

abbrev pub invariant-loop-wanted : goal.invariant-loop-wanted
invariant-loop-wanted g l = record {
  utf8 : shadow (Utf8 l.rest);
  room : l.place + length (letters l.case l.rest) ≤ l.len;
  as_good : fits (letters l.case l.segment) (drop l.start (read_as l.case l.units)) ≡ fits (letters l.case l.rest) (drop l.place (read_as l.case l.units));
  cost : l.steps + length (letters l.case l.rest) ≤ l.initial.steps + length (letters l.case l.segment);
}

abbrev pub decreases-loop-wanted : goal.decreases-loop-wanted
decreases-loop-wanted g l = length (letters l.case l.rest)
