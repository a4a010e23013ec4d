use Rattle.std.proofs.Common.{◌+◌, arith, length-drop}
use Rattle.sigv4_check.proofs.Cuts.{some_mark, no_mark}
use Rattle.sigv4_check.proofs.parts.cut_at.Goals as goal

pub returns-in_err-place : goal.returns-in_err-place
returns-in_err-place c = rw c.from_residual.ensures (no_mark c.args.mark c.args.text.now c.in_err-place.ensures)

pub behind-requires : goal.behind-requires
behind-requires c = let cut = some_mark c.args.mark c.args.text.now c.in_ok-place.place c.in_ok-place.ensures in omega (arith, cut.0)

pub returns : goal.returns
returns c =
    let cut = some_mark c.args.mark c.args.text.now c.in_ok-place.place c.in_ok-place.ensures in
    let size = length-drop (c.in_ok-place.place + 1) c.args.text.now in
    rw c.behind.ensures (cut.1, omega (arith, size, cut.0))
