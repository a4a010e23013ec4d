use Rattle.std.proofs.lemmas.Slice.Eq.{slice_eq-Decides}
use Rattle.access_explain.proofs.MarkFacts.{mark_decides}
use Rattle.access_explain.proofs.marks.same_marks.Goals as goal

pub returns : goal.returns
returns c = slice_eq-Decides mark_decides c.args.one.now c.args.other.now c.eq.result c.eq.ensures
