use Rattle.std.proofs.Common.{◌∙◌, sym, ap, arith, ◌&&◌, eqb, get_or, Bool}
use Rattle.sigv4_check.proofs.SameFacts.{no_difference, same_more, same_all, not_same}
use Rattle.sigv4_check.proofs.signing.are_digits.Goals as goal

pub returns-then-text-ne64 : goal.returns-then-text-ne64
returns-then-text-ne64 c = not_same c.args.digits.now c.args.text.now (λ e. c.if-text-ne64.true (sym e ∙ c.told-digits))

pub loop-i-preserved : goal.loop-i-preserved
loop-i-preserved c =
    let i = c.loop-i.i in
    let a = c.args.digits.now in
    let b = c.args.text.now in
    no_difference c.loop-i.difference (get_or a i 0) (get_or b i 0) ∙ ap (λ (t : Bool). t && eqb (get_or a i 0) (get_or b i 0)) c.loop-i.invariant ∙ same_more a b i (omega (arith, c.told-digits)) (omega arith)

pub returns : goal.returns
returns c = c.loop-i.invariant ∙ same_all c.args.digits.now c.args.text.now c.loop-i.i (omega (arith, c.told-digits)) (omega arith)
