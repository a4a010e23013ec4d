-- What is left of the pattern matches what is left of the text where the whole does.
use Rattle.std.proofs.Common.{◌∷◌, ◌+◌, ◌*◌, ◌/◌, ◌≤◌, length}
use Rattle.std.specs.Prelude.{◌↔◌}
use denote.Text.{Utf8}
use denote.Shadow.{shadow}
use Rattle.std.specs.Str.{chars}
use Rattle.kms_names.specs.Glob.{Globs, star}
use Rattle.glob_patterns.specs.Letters.{letters, read_as, units_of}
use Rattle.glob_patterns.proofs.matching.matches_behind_star.Given as goal

abbrev pub invariant-loop-segment : goal.invariant-loop-segment
invariant-loop-segment g l = record {
  utf8 : shadow (Utf8 l.rest);
  as_good : Globs (star ∷ letters l.case l.pattern) (read_as l.case l.units) ↔ Globs (star ∷ letters l.case l.rest) (read_as l.case l.left);
  shorter : length (units_of l.left) ≤ length (units_of l.units);
  cost : l.steps + length (chars l.rest) * (length (units_of l.units) / 256 + 1) ≤ l.initial.steps + length (chars l.pattern) * (length (units_of l.units) / 256 + 1);
}

abbrev pub decreases-loop-segment : goal.decreases-loop-segment
decreases-loop-segment g l = length (chars l.rest)
