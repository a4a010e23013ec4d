use Rattle.std.proofs.Common.{ℕ, List, [], ◌++◌, get_or, sym, ◌∙◌, ap}
use Rattle.kept_log.specs.Log.{line}
use Rattle.kept_log.proofs.Lines.{batch_more}
use Rattle.kept_log.proofs.log.lines_of.Goals as goal

pub loop-body-preserved : goal.loop-body-preserved
loop-body-preserved c =
    let body = get_or c.args.bodies.now c.loop-body.body-index (record { ref_ptr = (0, 0); now = [] }) in
    c.in_ok-add_line.ensures ∙ ap (λ (l : List ℕ). l ++ line body.now) c.loop-body.invariant
    ∙ sym (batch_more c.args.bodies.now c.loop-body.body-index (record { ref_ptr = (0, 0); now = [] }) c.loop-body-test.true)
