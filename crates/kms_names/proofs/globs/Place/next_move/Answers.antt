use Rattle.std.proofs.Common.{sym}
use Rattle.std.proofs.lemmas.Bool.{eqb-true}
use Rattle.std.proofs.lemmas.List.{nil_from_length}
use Rattle.std.proofs.lemmas.Str.{chars-nil}
use Rattle.kms_names.proofs.GlobFacts.{star_takes_all}
use Rattle.kms_names.proofs.globs.Place.next_move.Goals as goal

pub returns-then-is_empty-clause-moves : goal.returns-then-is_empty-clause-moves
returns-then-is_empty-clause-moves g c =
    rw (c.in-Some.ensures, c.if-wanted-eq42.true, nil_from_length _ (eqb-true _ 0 (sym c.if-is_empty.ensures)), chars-nil) (star_takes_all _)
