use Rattle.std.proofs.Common.{FitsSigned, w64, inl, inr, rules}
use Rattle.std.proofs.lemmas.Int.{to_z-of_z}
use Rattle.cond_ops.specs.Moment.{IsDay, IsDayAndTime, IsSeconds}
use Rattle.cond_ops.proofs.SecondFacts.{third_of_three}
use Rattle.cond_ops.proofs.moments.read_moment.Goals as goal

pub returns-in-Some : goal.returns-in-Some
returns-in-Some c =
    let fits : FitsSigned w64 c.in-Some.second = search rules in simp to_z-of_z (inl c.in-Some.ensures)

pub returns-in-Some-read_date : goal.returns-in-Some-read_date
returns-in-Some-read_date c =
    let fits : FitsSigned w64 c.in-Some-read_date.second = search rules in simp to_z-of_z (inr (inl c.in-Some-read_date.ensures))

pub returns : goal.returns
returns c =
    let text = c.args.text.now in
    third_of_three (IsDayAndTime text) (IsDay text) (IsSeconds text) c.read_seconds.result c.in_default.ensures c.in_default-read_date.ensures c.read_seconds.ensures
