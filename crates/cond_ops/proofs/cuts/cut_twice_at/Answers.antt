use Rattle.std.proofs.Common.{◌∷◌, ◌++◌, sym}
use Rattle.cond_ops.proofs.CutFacts.{same_cut}
use Rattle.cond_ops.proofs.cuts.cut_twice_at.Goals as goal

pub returns-in_err-second : goal.returns-in_err-second
returns-in_err-second c =
    let m = c.args.mark in
    rw c.from_residual-in_err-second.ensures (λ first second rest is.
    let same = same_cut m c.args.text.now first (second ++ m ∷ rest) c.in_ok-first.first.now c.in_ok-first.others.now (is.0, is.2) c.in_ok-first.ensures in
    c.in_err-second.ensures second rest (is.1, sym same.1))
