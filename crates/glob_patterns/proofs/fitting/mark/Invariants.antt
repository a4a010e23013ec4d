-- What is left of the part has to fit behind the place, and the flags say where it still may.
use Rattle.std.proofs.Common.{◌+◌, ◌≤◌, length}
use denote.Text.{Utf8}
use denote.Shadow.{shadow}
use Rattle.glob_patterns.specs.Letters.{letters, read_as}
use Rattle.glob_patterns.proofs.MarkFacts.{Marks}
use Rattle.glob_patterns.proofs.fitting.mark.Given as goal

abbrev pub invariant-loop-wanted : goal.invariant-loop-wanted
invariant-loop-wanted g l = record {
  utf8 : shadow (Utf8 l.rest);
  room : l.place + length l.flags + length (letters l.case l.rest) ≤ l.len + 1;
  marks : Marks (letters l.case l.segment) (read_as l.case l.units) (letters l.case l.rest) l.place l.flags;
  cost : l.steps + length (letters l.case l.rest) ≤ l.initial.steps + length (letters l.case l.segment);
}

abbrev pub decreases-loop-wanted : goal.decreases-loop-wanted
decreases-loop-wanted g l = length (letters l.case l.rest)
