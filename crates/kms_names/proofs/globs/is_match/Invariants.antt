use Rattle.kms_names.specs.GlobMoves.{letters}
use Rattle.kms_names.proofs.GlobLoop.{Keeps, last_of, work}
use Rattle.kms_names.proofs.globs.is_match.Given as goal

abbrev pub invariant-moves : goal.invariant-moves
invariant-moves g l =
    Keeps (letters l.case l.pattern) (letters l.case l.text) l.initial.steps (letters l.case l.place.pattern.now) (letters l.case l.place.text.now) (last_of l.case l.last_star) l.steps

abbrev pub decreases-moves : goal.decreases-moves
decreases-moves g l =
    work (letters l.case l.pattern) (letters l.case l.text) (letters l.case l.place.pattern.now) (last_of l.case l.last_star)
