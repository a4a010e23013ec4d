use Rattle.std.proofs.Common.{◌-◌, ◌≤◌, ℕ, take, drop, length, length-take, length-drop, ◌++◌, ap, sym, ◌∙◌, subst, arith}
use Rattle.std.proofs.Math.Seq.{take-add}
use Rattle.std.proofs.lemmas.List.{take_rest}
use Rattle.session_front.specs.Sending.{SendsWhole}
use Rattle.session_front.proofs.Wires.{whole_nothing, whole_on, whole_piece, sends_short}
use Rattle.session_front.proofs.sending.send.Goals as goal

pub loop-at-preserved : goal.loop-at-preserved
loop-at-preserved g c =
    let n = c.in-Wrote.count in
    let at = c.loop-at.at in
    let text = c.args.text.now in
    let fits : n ≤ length (take (length text - at) (drop at text)) = c.in-Wrote.ensures.1 in
    let next = take-add at n text ∙ sym (ap (λ rest. take at text ++ take n rest) (take_rest text at)) in
    record {
      within = omega (arith, length-take {A = ℕ}, length-drop {A = ℕ});
      sent = subst (SendsWhole _ _) (sym next) (whole_on c.loop-at.invariant.sent (whole_piece n _ fits c.in-Wrote.ensures.2 c.in-Wrote.ensures.3));
    }

pub returns-in-Failed : goal.returns-in-Failed
returns-in-Failed g c = sends_short c.args.text.now c.loop-at.at c.loop-at-test.true c.loop-at.invariant.sent.sends c.in-Failed.ensures.0 c.in-Failed.ensures.1

pub loop-at-init : goal.loop-at-init
loop-at-init g c = record { within = omega arith; sent = whole_nothing _ }
