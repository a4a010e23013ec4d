use Rattle.std.proofs.Common.{ℕ, List, [], length, get_or, take, ap, arith, length-append}
use Rattle.kept_log.specs.Log.{batch_of, line, lines}
use Rattle.kept_log.proofs.Lines.{batch_more, length_line}
use Rattle.kept_log.proofs.log.size_of.Goals as goal

pub loop-body-preserved : goal.loop-body-preserved
loop-body-preserved c =
    let so_far = lines (batch_of (take c.loop-body.body-index c.args.bodies.now)) in
    let body = get_or c.args.bodies.now c.loop-body.body-index (record { ref_ptr = (0, 0); now = [] }) in
    omega (
      arith,
      c.loop-body.invariant,
      c.saturating_add-size.ensures,
      ap length (batch_more c.args.bodies.now c.loop-body.body-index (record { ref_ptr = (0, 0); now = [] }) c.loop-body-test.true),
      length-append so_far (line body.now),
      length_line body.now,
    )
